-- One more line of a script, and the text before that of a run.
use Rattle.std.proofs.Common.{◌≡◌, ℕ, Bool, true, false, if◌then◌else◌, List, [], ◌∷◌, ◌++◌, Option, Some, None, refl, sym, ap, ◌∙◌, subst, append_assoc, append-nil, codes}
use Rattle.blob_script.specs.Scripts.{lines_of}
use Rattle.blob_fs.specs.Files.{KeepsNames}
use Rattle.blob_file_sessions.specs.Held.{fs_of}
use Rattle.blob_file_sessions.specs.declared.kept.KeptFiles.{KeptFiles}
use Rattle.blob_file_scripts.specs.Answers.{Answers}
use Rattle.blob_file_scripts.specs.CallLines.{Said, said_of}
use Rattle.blob_file_scripts.specs.Takes.{DoesLine, DoesNoCall, DoesSaid, TakesFirst, TakesLine, TakesLines, is_blank, with_reply}

-- a line says a call, which was made
pub call_made : (tokens : List (List ℕ)) (said : Said) (k k' : KeptFiles) (old new : List ℕ) → said_of tokens ≡ Some (Some said) → old ≡ [] → Answers said k k' old new
    → DoesLine tokens k k' (Some new)
call_made tokens said k k' old new is none answers =
    subst (λ (r : Option (Option Said)). DoesSaid r (is_blank tokens) k k' (Some new)) (sym is) (subst (λ (t : List ℕ). Answers said k k' t new) none answers)

-- a line is blank
pub nothing_done : (tokens : List (List ℕ)) (k : KeptFiles) → said_of tokens ≡ Some None → is_blank tokens ≡ true → DoesLine tokens k k None
nothing_done tokens k is blank =
    subst (λ (r : Option (Option Said)). DoesSaid r (is_blank tokens) k k None) (sym is) (subst (λ (b : Bool). DoesNoCall b k k None) (sym blank) (refl, refl))

-- a line is a setting, which was made
pub setting_made : (tokens : List (List ℕ)) (k k' : KeptFiles) (reply : List ℕ) → said_of tokens ≡ Some None → is_blank tokens ≡ false → reply ≡ codes "ok" → KeepsNames (fs_of k) (fs_of k')
    → DoesLine tokens k k' (Some reply)
setting_made tokens k k' reply is blank ok keeps =
    subst (λ (r : Option (Option Said)). DoesSaid r (is_blank tokens) k k' (Some reply)) (sym is) (subst (λ (b : Bool). DoesNoCall b k k' (Some reply)) (sym blank) (ap Some ok, keeps))

takes_more : (last : Bool) (lines : List (List ℕ)) (line : List ℕ) (k mid k' : KeptFiles) (old text new : List ℕ)
    → TakesLines last lines k mid old text → TakesLine last line mid k' text new → TakesLines last (lines ++ line ∷ []) k k' old new
takes_more last [] line k mid k' old text new (same, is) one =
    (k', new, subst (λ (t : List ℕ). TakesLine last line k k' t new) is (subst (λ (m : KeptFiles). TakesLine last line m k' text new) same one), (refl, refl))
takes_more last (l ∷ lines) line k mid k' old text new (m, t, here, rest) one = (m, t, here, takes_more last lines line m mid k' t text new rest one)

-- one more of the first lines
pub first_more : (last : Bool) (script rest line others : List ℕ) (k mid k' : KeptFiles) (old text new : List ℕ)
    → TakesFirst last script rest k mid old text → lines_of rest ≡ line ∷ lines_of others → TakesLine last line mid k' text new → TakesFirst last script others k k' old new
first_more last script rest line others k mid k' old text new before split one = record {
  front = before.front ++ line ∷ [];
  lines = before.lines ∙ ap (λ (ls : List (List ℕ)). before.front ++ ls) split ∙ sym (append_assoc before.front (line ∷ []) (lines_of others));
  takes = takes_more last before.front line k mid k' old text new before.takes one;
}

-- none of them was taken
pub none_taken : (last : Bool) (script : List ℕ) (k : KeptFiles) (text : List ℕ) → TakesFirst last script script k k text text
none_taken last script k text = record { front = []; lines = refl; takes = (refl, refl) }

-- all of them were taken
pub all_taken : (last : Bool) (script rest : List ℕ) (k k' : KeptFiles) (old new : List ℕ) → TakesFirst last script rest k k' old new → rest ≡ [] → TakesLines last (lines_of script) k k' old new
all_taken last script rest k k' old new first none =
    let whole : lines_of script ≡ first.front = first.lines ∙ ap (λ (r : List ℕ). first.front ++ lines_of r) none ∙ append-nil first.front in
    subst (λ (ls : List (List ℕ)). TakesLines last ls k k' old new) (sym whole) first.takes

-- The replies of some lines, after a text.

reply_behind : (front old : List ℕ) (reply : Option (List ℕ)) → front ++ with_reply false old reply ≡ with_reply false (front ++ old) reply
reply_behind front old None = refl
reply_behind front old (Some reply) = sym (append_assoc front old (reply ++ 10 ∷ []))

line_behind : (front line : List ℕ) (k k' : KeptFiles) (old new : List ℕ) → TakesLine false line k k' old new → TakesLine false line k k' (front ++ old) (front ++ new)
line_behind front line k k' old new takes = record {
  code = takes.code;
  is = takes.is;
  reply = takes.reply;
  does = takes.does;
  prints = ap (λ (t : List ℕ). front ++ t) takes.prints ∙ reply_behind front old takes.reply;
}

pub lines_behind : (front : List ℕ) (lines : List (List ℕ)) (k k' : KeptFiles) (old new : List ℕ) → TakesLines false lines k k' old new → TakesLines false lines k k' (front ++ old) (front ++ new)
lines_behind front [] k k' old new (same, is) = (same, ap (λ (t : List ℕ). front ++ t) is)
lines_behind front (line ∷ lines) k k' old new (mid, text, here, rest) =
    (mid, front ++ text, line_behind front line k mid old text here, lines_behind front lines mid k' text new rest)

-- what is before the text of a run's own lines
pub after_shared : (last : Bool) (shared own : List ℕ) (lines : List (List ℕ)) (k k' : KeptFiles) → TakesLines last lines k k' (if last then shared else []) own
    → TakesLines last lines k k' shared ((if last then [] else shared) ++ own)
after_shared true shared own lines k k' takes = takes
after_shared false shared own lines k k' takes = subst (λ (t : List ℕ). TakesLines false lines k k' t (shared ++ own)) (append-nil shared) (lines_behind shared lines k k' [] own takes)
