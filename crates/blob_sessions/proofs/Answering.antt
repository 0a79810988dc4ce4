-- The contract of a line, from those of making its call and of writing its reply.
use Rattle.std.proofs.Common.{◌≡◌, ◌<◌, ℕ, List, Bool, true, false, Option, Some, None, IfSome, MatchOption, length, take, refl, sym, ap, ◌∙◌, subst, inl, inr, arith}
use Rattle.blob_script.specs.declared.call.Call.{Call as LabCall}
use Rattle.blob_lab_store.specs.declared.lab.Lab.{Lab}
use Rattle.blob_script.specs.declared.reply.Reply.{Reply}
use Rattle.blob_script.specs.Acts.{Act}
use Rattle.blob_lab_store.specs.LabStands.{Performs}
use Rattle.blob_script.specs.Lines.{line_of}
use Rattle.blob_script.specs.Readers.{SaysCall, config_of}
use Rattle.blob_script.specs.Replies.{reply_line}
use Rattle.blob_draws.specs.declared.config.Config.{Config}
use Rattle.blob_sessions.specs.declared.kept.Kept.{Kept}
use Rattle.blob_statuses.specs.declared.ran.Ran.{Ran}
use Rattle.blob_statuses.specs.declared.ran.TheConstants.{BAD_LINE, DONE, POWER_LOSS}
use Rattle.std.specs.Prelude.{◌==◌, MatchBool}
use Rattle.blob_statuses.specs.Powers.{after_call, permits}
use Rattle.blob_statuses.specs.declared.power.Power.{Power}
use Rattle.blob_sessions.specs.Effects.{effect_of}
use Rattle.blob_sessions.specs.Supplies.{FollowsCall, after_last}
use Rattle.blob_sessions.specs.Typed.{last_reply}
use Rattle.blob_sessions.specs.Sessions.{CallsAndTells, RunsCall, RunsLine, IsNoCall, IsTooLong, Makes, TellsAgain, settings_of}

performs_alike : (a b c d : Lab) (act : Act) (reply : Reply) → b ≡ a → d ≡ c → Performs b act reply c → Performs a act reply d
performs_alike a b c d act reply before after p =
    let P : Lab → Type 0 = λ l. Performs l act reply c in let Q : Lab → Type 0 = λ l. Performs a act reply l in subst Q (sym after) (subst P before p)

pub said_call : (o : Option LabCall) (call : LabCall) (P : LabCall → Type 0) → o ≡ Some call → IfSome o P → P call
said_call None call P e h = absurd (cc)
said_call (Some x) call P e h = let same : x ≡ call = cc e in subst P same h

-- the power has followed a call that it permitted
follows : (k asked made followed k' : Kept) (act : Act) (reply : Reply) → asked.power ≡ k.power → made.power ≡ asked.power → made.last ≡ Some reply → permits asked.power (effect_of act) ≡ true
    → followed ≡ record made { power = after_last made (effect_of act) } → k' ≡ followed → FollowsCall k act reply k'
follows k asked made followed k' act reply before during last permitted follow told =
    record {
      permitted = subst (λ (p : Power). permits p (effect_of act) ≡ true) before permitted;
      power = ap (λ (x : Kept). x.power) told ∙ ap (λ (x : Kept). x.power) follow
          ∙ ap (λ (p : Power). after_call p (effect_of act) ((last_reply made.last).status == DONE)) (during ∙ before)
          ∙ ap (λ (l : Option Reply). after_call k.power (effect_of act) ((last_reply l).status == DONE)) last;
    }

pub answered : (k asked made followed k' : Kept) (line : List ℕ) (act : Act) (ran : Ran) (old new : List ℕ) → SaysCall (settings_of k) (line_of line) act (settings_of asked) → asked ≡ record k { reader = asked.reader; begun = asked.begun } → (reply : Reply) → Makes asked act reply made
    → settings_of made ≡ settings_of asked → made.power ≡ asked.power → permits asked.power (effect_of act) ≡ true → followed ≡ record made { power = after_last made (effect_of act) }
    → TellsAgain followed k' ran old new → RunsLine k k' line ran old new
answered k asked made followed k' line act ran old new asks kept reply makes same during permitted follow tells =
    let lab_told : k'.lab ≡ made.lab = ap (λ (x : Kept). x.lab) tells.same ∙ ap (λ (x : Kept). x.lab) follow in
    let last_told : k'.last ≡ made.last = ap (λ (x : Kept). x.last) tells.same ∙ ap (λ (x : Kept). x.last) follow in
    let debts_told : k'.debts ≡ made.debts = ap (λ (x : Kept). x.debts) tells.same ∙ ap (λ (x : Kept). x.debts) follow in
    let follows' : FollowsCall k act reply k' = follows k asked made followed k' act reply (ap (λ (x : Kept). x.power) kept) during makes.last permitted follow tells.same in
    let last' : followed.last ≡ Some reply = ap (λ (x : Kept). x.last) follow ∙ makes.last in
    let AskedWith : Config → Type 0 = λ c. SaysCall (settings_of k) (line_of line) act c in
    let asks' : SaysCall (settings_of k) (line_of line) act (settings_of k') = subst AskedWith (sym (ap settings_of tells.same ∙ ap settings_of follow ∙ same)) asks in
    let makes' : Makes k act reply k' = record { performs = performs_alike k.lab asked.lab made.lab k'.lab act reply (ap (λ x. x.lab) kept) lab_told makes.performs; last = last_told ∙ makes.last; debts = debts_told ∙ makes.debts ∙ ap (λ x. x.debts) kept } in
    let known = tells.status in
    record {
      done = λ h. inl (act, reply, asks', makes', follows', (let P : Option Reply → Type 0 = λ o. MatchOption o (ran.len ≡ 0) (λ r. take ran.len new ≡ reply_line r) in subst P last' (tells.done h)));
      no_room = λ h. (act, reply, asks', makes', follows', (let P : Option Reply → Type 0 = λ o. IfSome o (λ r. (ran.len ≡ length (reply_line r)) × (length old < ran.len)) in subst P last' (tells.no_room h)));
      unprinted = λ h. (act, reply, asks', makes', follows', (let P : Option Reply → Type 0 = λ o. IfSome o IsTooLong in subst P last' (tells.unprinted h)));
      bad_line = λ h. absurd (elim known [ inl e ↦ omega (arith, e, h) | inr more ↦ elim more [ inl e ↦ omega (arith, e, h) | inr e ↦ omega (arith, e, h) ] ]);
      no_memory = λ h. absurd (elim known [ inl e ↦ omega (arith, e, h) | inr more ↦ elim more [ inl e ↦ omega (arith, e, h) | inr e ↦ omega (arith, e, h) ] ]);
      off = λ h. absurd (elim known [ inl e ↦ omega (arith, e, h) | inr more ↦ elim more [ inl e ↦ omega (arith, e, h) | inr e ↦ omega (arith, e, h) ] ]);
      status = elim known [ inl e ↦ inl e | inr more ↦ elim more [ inl e ↦ inr (inl e) | inr e ↦ inr (inr (inl e)) ] ];
      no_reply = tells.no_reply;
      within = tells.within;
      unwritten = tells.unwritten;
      behind = tells.behind;
    }

pub declined : (k k' : Kept) (line : List ℕ) (ran : Ran) (room : List ℕ) → ran ≡ record { status = BAD_LINE; len = 0 } → IsNoCall line → k' ≡ k → RunsLine k k' line ran room room
declined k k' line ran room is bad same =
    let s : ran.status ≡ BAD_LINE = ap (λ r. r.status) is in let none : ran.len ≡ 0 = ap (λ r. r.len) is in record {
      done = λ h. absurd (omega (arith, s, h));
      no_room = λ h. absurd (omega (arith, s, h));
      unprinted = λ h. absurd (omega (arith, s, h));
      bad_line = λ h. (bad, same);
      no_memory = λ h. absurd (omega (arith, s, h));
      off = λ h. absurd (omega (arith, s, h));
      status = inr (inr (inr (inl s)));
      no_reply = inr (inr none);
      within = inr (omega (arith, none));
      unwritten = inr refl;
      behind = refl;
    }

-- the power doesn't permit the call of a line
pub unpowered : (k k' : Kept) (line : List ℕ) (act : Act) (ran : Ran) (room : List ℕ) → ran ≡ record { status = POWER_LOSS; len = 0 } → SaysCall (settings_of k) (line_of line) act (settings_of k')
    → k' ≡ record k { reader = k'.reader; begun = k'.begun } → permits k'.power (effect_of act) ≡ false → RunsLine k k' line ran room room
unpowered k k' line act ran room is asks kept refused =
    let s : ran.status ≡ POWER_LOSS = ap (λ r. r.status) is in let none : ran.len ≡ 0 = ap (λ r. r.len) is in
    let before : permits k.power (effect_of act) ≡ false = subst (λ (p : Power). permits p (effect_of act) ≡ false) (ap (λ (x : Kept). x.power) kept) refused in record {
      done = λ h. absurd (omega (arith, s, h));
      no_room = λ h. absurd (omega (arith, s, h));
      unprinted = λ h. absurd (omega (arith, s, h));
      bad_line = λ h. absurd (omega (arith, s, h));
      no_memory = λ h. absurd (omega (arith, s, h));
      off = λ h. (act, asks, record { refused = before; same = kept });
      status = inr (inr (inr (inr (inr s))));
      no_reply = inr (inr none);
      within = inr (omega (arith, none));
      unwritten = inr refl;
      behind = refl;
    }

by_power : (b : Bool) (k asked k' : Kept) (line : List ℕ) (act : Act) (ran : Ran) (old new : List ℕ) → permits asked.power (effect_of act) ≡ b → SaysCall (settings_of k) (line_of line) act (settings_of asked)
    → asked ≡ record k { reader = asked.reader; begun = asked.begun }
    → MatchBool b (CallsAndTells asked act k' ran old new) ((ran ≡ record { status = POWER_LOSS; len = 0 }) × (k' ≡ asked) × (new ≡ old)) → RunsLine k k' line ran old new
by_power true k asked k' line act ran old new is asks kept calls =
    answered k asked calls.made calls.followed k' line act ran old new asks kept calls.reply calls.makes (ap config_of calls.reader) calls.power is calls.follows calls.tells
by_power false k asked k' line act ran old new is asks kept off =
    subst (λ (x : Kept). RunsLine k x line ran old new) (sym off.1)
    (subst (λ (n : List ℕ). RunsLine k asked line ran old n) (sym off.2) (unpowered k asked line act ran old off.0 asks kept is))

-- the call of a line, under the supply of power
pub ran_line : (k asked k' : Kept) (line : List ℕ) (act : Act) (ran : Ran) (old new : List ℕ) → SaysCall (settings_of k) (line_of line) act (settings_of asked)
    → asked ≡ record k { reader = asked.reader; begun = asked.begun } → RunsCall asked act k' ran old new → RunsLine k k' line ran old new
ran_line k asked k' line act ran old new asks kept runs = by_power (permits asked.power (effect_of act)) k asked k' line act ran old new refl asks kept runs
