use Rattle.std.proofs.Common.{rules, ◌≡◌, ℕ, List, Option, Some, Vec, MatchOption, get_or, length, ◌<◌, refl, ap, sym, ◌∙◌, subst}
use Rattle.std.specs.Global.{Global}
use Rattle.std.specs.Prelude.{slice_get}
use Rattle.std.proofs.lemmas.Option.{slice_get-get_or}
use Rattle.blob_directory.specs.declared.edit.Binding.{Binding}
use Rattle.blob_sessions.specs.Parts.{CopiesBytes}
use Rattle.blob_statuses.specs.declared.ran.Ran.{Ran}
use Rattle.blob_statuses.specs.declared.ran.TheConstants.{OTHER_REPLY}
use Rattle.blob_file_sessions.specs.LastParts.{CopiesEntry, names_in, of_last}
use Rattle.blob_file_sessions.specs.Replies.{bound_reply, no_reply}
use Rattle.blob_file_sessions.specs.declared.call.FileReply.{FileReply}
use Rattle.blob_fs.specs.declared.reply.Reply.{Reply}
use Rattle.blob_fs.specs.declared.reply.Reply.TheVariants.{Names}
use Rattle.blob_file_sessions.proofs.kept.KeptFiles.name.Goals as goal

abbrev Entry : Type 0
Entry = Vec ℕ Global × Binding

-- the numbers of an entry that was copied
abbrev Copied : Entry → FileReply → List ℕ → List ℕ → Type 0
Copied entry reply old new = CopiesBytes entry.0.items (record { status = reply.status; len = reply.size }) old new × (reply ≡ bound_reply entry.1 reply.status reply.size)

copies : (last : Option Reply) (names : Vec Entry Global) (index : ℕ) (reply : FileReply) (ran : Ran) (old new : List ℕ) (found : Entry) → last ≡ Some (Names names) → slice_get names.items index ≡ Some found
    → CopiesBytes found.0.items ran old new → reply ≡ bound_reply found.1 ran.status ran.len → CopiesEntry last index reply old new
copies last names index reply ran old new found is lookup bytes same =
    let e : slice_get (of_last names_in last) index ≡ Some found = ap (λ l. slice_get (of_last names_in l) index) is ∙ lookup in
    let both : Copied found reply old new = subst (λ (r : FileReply). Copied found r old new) (sym same) (bytes, refl) in
    subst (λ (o : Option Entry). MatchOption o ((reply ≡ no_reply OTHER_REPLY) × (new ≡ old)) (λ entry. Copied entry reply old new)) (sym e) both

pub returns : goal.returns
returns c =
    let found = c.in-Some.field-0.now in let h = c.in-Some.ensures.lookup in
    let rows : c.deref.result.now ≡ c.in-Some-Names.names.items = search rules in
    let lt : c.args.index < length c.deref.result.now = search rules in
    let is : found ≡ get_or c.deref.result.now c.args.index found = search rules in
    let lookup = slice_get-get_or c.deref.result.now c.args.index found lt ∙ ap Some (sym is) in
    copies c.args.self.now.last c.in-Some-Names.names c.args.index c.bound.result c.copied-ran.result c.args.into.now c.copied-ran.new.into found (search rules) (ap (λ xs. slice_get xs c.args.index) (sym rows) ∙ lookup) (search rules) (search rules)
