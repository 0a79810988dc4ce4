-- The rule of a profile, by the edits that a sync left unsettled.
use Rattle.std.specs.Prelude.{◌≡◌, ℕ, Bool, true, false, ◌&&◌, List, Option, Some, None, get_or, if◌then◌else◌, nat_eq}
use Rattle.std.specs.List.{fold, list_any}
use Rattle.blob_directory.specs.declared.profile.Keeps.{Keeps}
use Rattle.blob_directory.specs.declared.profile.Keeps.TheVariants.{Any, Prefix, Logged}
use Rattle.blob_directory.specs.declared.rule.Rule as rust_rule
use Rattle.blob_directory.specs.declared.unsettled.Unsettled.{Unsettled}
use Rattle.blob_directory.specs.Profiles.{Rule}
use Rattle.blob_directory.specs.Wanted.{is_up_to}

abbrev pub later_seen : Option ℕ → Unsettled → Option ℕ
later_seen last edit = if edit.is_seen then Some edit.record else last

-- the record of the last edit that a sync left unsettled
abbrev pub last_seen : List Unsettled → Option ℕ
last_seen edits = fold later_seen None edits

-- the record is of an edit that the log follows
abbrev pub follows : List Unsettled → ℕ → Bool
follows edits n = list_any (λ e. e.is_followed && nat_eq e.record n) edits

-- each edit that was found counts
abbrev pub any : Rule
any = record { is_prefix = false; is_seen = λ n. false; is_followed = λ n. false }

-- each up to the first one that was lost
abbrev pub prefix : Rule
prefix = record { is_prefix = true; is_seen = λ n. false; is_followed = λ n. false }

abbrev pub rule_of : Keeps → List Unsettled → Rule
rule_of Any edits = any
rule_of Prefix edits = prefix
rule_of Logged edits = record { is_prefix = true; is_seen = λ n. is_up_to (last_seen edits) n; is_followed = λ n. follows edits n }

-- a rule of the code, as data
abbrev pub rule_in : rust_rule.Rule → Rule
rule_in r = record { is_prefix = r.is_prefix; is_seen = λ n. is_up_to r.last n; is_followed = λ n. get_or r.followed.items n false }

-- both let the same edits count
pub record SameRule (a b : Rule) : Type 0 where
  pub prefix : a.is_prefix ≡ b.is_prefix
  pub seen : (n : ℕ) → a.is_seen n ≡ b.is_seen n
  pub followed : (n : ℕ) → a.is_followed n ≡ b.is_followed n
