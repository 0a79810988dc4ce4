-- The error of a reply, by the expected one.
use Rattle.std.proofs.Common.{◌≡◌, Option, Some, None, refl, ap, ◌∙◌}
use Rattle.blob_header.specs.Refusals.{Refusal}
use Rattle.blob_script.specs.declared.reply.Reply.{Reply}
use Rattle.blob_script.specs.declared.reply.Reply.TheVariants as reply
use Rattle.blob_lab_model.specs.Answers.{unless_denied}
use Rattle.blob_script.specs.Told as told
use Rattle.blob_script.specs.Told.{Told, Tells, refused_by}

abbrev pub refused_in : Told → Option Refusal
refused_in (told.Failed refusal) = Some refusal
refused_in told = None

tells_refused : (r : Reply) (t : Told) → Tells r t → refused_by r ≡ refused_in t
tells_refused reply.Done told.Done t = refl
tells_refused reply.Done other t = absurd t
tells_refused (reply.Opened handle size version) (told.Opened number len v) t = refl
tells_refused (reply.Opened handle size version) other t = absurd t
tells_refused (reply.Bytes bytes) (told.Bytes read) t = refl
tells_refused (reply.Bytes bytes) other t = absurd t
tells_refused (reply.Size size) (told.Size tracked) t = refl
tells_refused (reply.Size size) other t = absurd t
tells_refused (reply.Names names) (told.Names is_there) t = refl
tells_refused (reply.Names names) other t = absurd t
tells_refused (reply.Started sync) (told.Started number) t = refl
tells_refused (reply.Started sync) other t = absurd t
tells_refused (reply.Crashed selections) (told.Crashed rows) t = refl
tells_refused (reply.Crashed selections) other t = absurd t
tells_refused (reply.Failed e) (told.Failed refusal) t = ap Some t
tells_refused (reply.Failed e) other t = absurd t
tells_refused reply.NoHandle told.NoHandle t = refl
tells_refused reply.NoHandle other t = absurd t
tells_refused reply.EmptyRange told.EmptyRange t = refl
tells_refused reply.EmptyRange other t = absurd t

-- the error of a call is its denial
pub denied : (r : Reply) (denial : Option Refusal) (answer : Told) → refused_in answer ≡ None → Tells r (unless_denied denial answer) → refused_by r ≡ denial
denied r None answer none t = tells_refused r answer t ∙ none
denied r (Some refusal) answer none t = tells_refused r (told.Failed refusal) t
