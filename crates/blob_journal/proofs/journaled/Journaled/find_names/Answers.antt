use Rattle.std.proofs.Common.{Bool, None, ◌≡◌, List, ℕ, Some, ap, ap₂, refl, sym, ◌∙◌}
use Rattle.blob_directory.specs.Records.{found_in}
use Rattle.blob_directory.specs.Names.{all_edited, Same}
use Rattle.blob_journal.specs.Keeping.{told_in, names_in}
use Rattle.blob_journal.specs.Settling.{counted}
use Rattle.blob_journal.specs.Told.{names_kept}
use Rattle.blob_journal.proofs.Telling.{found_now}
use Rattle.blob_journal.proofs.Told.{chosen_of}
use Rattle.std.specs.Prelude.{codes}
use Rattle.std.specs.Int.{w64, to_be_bytes}
use Rattle.blob_model.specs.Directory.{current}
use Rattle.blob_model.specs.Places.{Place}
use Rattle.blob_memory.specs.Store.{directory, durable, place}
use Rattle.blob_memory.specs.declared.storage.Storage as memory
use Rattle.blob_faulty.specs.Keeps.{OverMemory}
use Rattle.blob_faulty.specs.Wrapper.{inner_of, inside}
use Rattle.blob_directory.specs.Profiles.{Rule, counts_in, names_told}
use Rattle.blob_directory.specs.Rules.{rule_of}
use Rattle.blob_directory.specs.Tables.{bound}
use Rattle.blob_journal.proofs.Currents.{current_of_name}
use Rattle.blob_journal.specs.Blobs.{file_name}
use Rattle.blob_journal.proofs.Blobs.{blob_same, blob_twice}
use Rattle.blob_journal.proofs.Stores.{holds_set, open_set}
use Rattle.blob_journal.proofs.journaled.Journaled.find_names.Goals as goal

some_same : {T : Type 0} {a b : T} → Some a ≡ Some b → a ≡ b
some_same e = cc

pub returns-clause-found : goal.returns-clause-found
returns-clause-found g c =
    let self = c.args.self.now in
    let rule : Rule = rule_of c.args.keeps self.unsettled.edits.items in
    let by : rule_of c.args.keeps c.as_slice.result.now ≡ rule = ap (rule_of c.args.keeps) c.as_slice.ensures in
    let at : Place = place (inside self.journal.blob) in
    let name : List ℕ = to_be_bytes w64 self.journal.generation in
    let here : current (directory (inner_of self.store)) (codes "j") name ≡ Some at =
    ap₂ (λ (p n : List ℕ). current (directory (inner_of self.store)) p n) (sym self.partition) (sym self.name) ∙ current_of_name (directory (inner_of self.store)) at self.current in
    let inner : inner_of c.set_config.new.self ≡ inner_of self.store = ap (λ (s : OverMemory g.row.R.Denot). inner_of s) c.set_config.ensures.set in
    let found : durable (inner_of c.set_config.new.self) at ≡ Some c.in_ok-bytes.bytes.items =
    c.in_ok-bytes.ensures.found at (ap (λ (s : memory.Storage). current (directory s) (codes "j") name) inner ∙ here) in
    let told : Same (bound c.in_ok-names.names) (names_told rule c.deref.result.now) =
    λ e. c.in_ok-names.ensures.names e ∙ ap (λ r. names_told r c.deref.result.now e) by in
    let same : Same (bound c.in_ok-names.names) (names_told rule c.in_ok-bytes.bytes.items) = λ e. told e ∙ ap (λ l. names_told rule l e) c.deref.ensures.value in
    record {
      journal = c.in_ok-bytes.bytes.items;
      is = record { place = at; current = here; durable = sym (ap (λ (s : memory.Storage). durable s at) inner) ∙ found };
      finds = c.in_ok-tree.ensures.finds (names_told rule c.in_ok-bytes.bytes.items) same;
    }

pub returns-clause-edits : goal.returns-clause-edits
returns-clause-edits g c =
    let self = c.args.self.now in
    let rule : Rule = rule_of c.args.keeps self.unsettled.edits.items in
    let by : rule_of c.args.keeps c.as_slice.result.now ≡ rule = ap (rule_of c.args.keeps) c.as_slice.ensures in
    let at : Place = place (inside self.journal.blob) in
    let name : List ℕ = to_be_bytes w64 self.journal.generation in
    let bytes : List ℕ = c.in_ok-bytes.bytes.items in
    let here : current (directory (inner_of self.store)) (codes "j") name ≡ Some at =
    ap₂ (λ (p n : List ℕ). current (directory (inner_of self.store)) p n) (sym self.partition) (sym self.name) ∙ current_of_name (directory (inner_of self.store)) at self.current in
    let inner : inner_of c.set_config.new.self ≡ inner_of self.store = ap (λ (s : OverMemory g.row.R.Denot). inner_of s) c.set_config.ensures.set in
    let found : durable (inner_of c.set_config.new.self) at ≡ Some bytes =
    c.in_ok-bytes.ensures.found at (ap (λ (s : memory.Storage). current (directory s) (codes "j") name) inner ∙ here) in
    let counts : c.deref-2.result.now ≡ counts_in rule bytes =
    c.deref-2.ensures.value ∙ c.in_ok-names.ensures.kept ∙ ap (λ r. counts_in r c.deref.result.now) by ∙ ap (λ l. counts_in rule l) c.deref.ensures.value in
    record {
      journal = bytes;
      is = record { place = at; current = here; durable = sym (ap (λ (s : memory.Storage). durable s at) inner) ∙ found };
      found = c.in_ok-edits.ensures ∙ ap (λ (l : List Bool). counted l self.unsettled.edits.items) counts;
    }

pub returns-clause-fits : goal.returns-clause-fits
returns-clause-fits g c =
    let found = c.in_ok-tree.ensures.finds (bound c.in_ok-names.names) (λ e. refl) in
    record {
      places = c.in_ok-tree.ensures.places;
      records = λ e to h. c.in_ok-names.ensures.fit e to (found.within e to h).0;
    }

pub returns-clause-again : goal.returns-clause-again
returns-clause-again g c = λ gives.
    let self = c.args.self.now in
    let rule : Rule = rule_of c.args.keeps self.unsettled.edits.items in
    let by : rule_of c.args.keeps c.as_slice.result.now ≡ rule = ap (rule_of c.args.keeps) c.as_slice.ensures in
    let at : Place = place (inside self.journal.blob) in
    let name : List ℕ = to_be_bytes w64 self.journal.generation in
    let here : current (directory (inner_of self.store)) (codes "j") name ≡ Some at =
    ap₂ (λ (p n : List ℕ). current (directory (inner_of self.store)) p n) (sym self.partition) (sym self.name) ∙ current_of_name (directory (inner_of self.store)) at self.current in
    let inner : inner_of c.set_config.new.self ≡ inner_of self.store = ap (λ (s : OverMemory g.row.R.Denot). inner_of s) c.set_config.ensures.set in
    let found : durable (inner_of c.set_config.new.self) at ≡ Some c.in_ok-bytes.bytes.items =
    c.in_ok-bytes.ensures.found at (ap (λ (s : memory.Storage). current (directory s) (codes "j") name) inner ∙ here) in
    let there : at ≡ gives.is.place = some_same (sym here ∙ gives.is.current) in
    let both : Some c.in_ok-bytes.bytes.items ≡ Some gives.journal = sym found ∙ ap (λ (s : memory.Storage). durable s at) inner ∙ ap (λ (o : Place). durable (inner_of self.store) o) there ∙ gives.is.fixed.durable in
    let bytes : c.in_ok-bytes.bytes.items ≡ gives.journal = some_same both in
    let told : Same (bound c.in_ok-names.names) (names_told rule c.deref.result.now) =
    λ e. c.in_ok-names.ensures.names e ∙ ap (λ r. names_told r c.deref.result.now e) by in
    let same : Same (bound c.in_ok-names.names) (names_in self) = λ e. told e ∙ ap (λ l. names_told rule l e) (c.deref.ensures.value ∙ bytes) ∙ gives.gives rule e in
    c.in_ok-tree.ensures.finds (names_in self) same

pub returns-clause-files : goal.returns-clause-files
returns-clause-files g c = λ r. c.open.ensures.keeps.files (r.0, c.set_config.ensures.files r.0 r.1)

pub invariant_of-self : goal.invariant_of-self
invariant_of-self g c = holds_set c.args.self.now c.set_config.new.self c.open.new.store c.default.result c.set_config.ensures.set c.open.ensures.keeps

pub returns-clause-kept : goal.returns-clause-kept
returns-clause-kept g c =
    let self = c.args.self.now in
    let rule : Rule = rule_of c.args.keeps self.unsettled.edits.items in
    let by : rule_of c.args.keeps c.as_slice.result.now ≡ rule = ap (rule_of c.args.keeps) c.as_slice.ensures in
    let at : Place = place (inside self.journal.blob) in
    let name : List ℕ = to_be_bytes w64 self.journal.generation in
    let bytes : List ℕ = c.in_ok-bytes.bytes.items in
    let here : current (directory (inner_of self.store)) (codes "j") name ≡ Some at =
    ap₂ (λ (p n : List ℕ). current (directory (inner_of self.store)) p n) (sym self.partition) (sym self.name) ∙ current_of_name (directory (inner_of self.store)) at self.current in
    let inner : inner_of c.set_config.new.self ≡ inner_of self.store = ap (λ (s : OverMemory g.row.R.Denot). inner_of s) c.set_config.ensures.set in
    let found : durable (inner_of c.set_config.new.self) at ≡ Some bytes =
    c.in_ok-bytes.ensures.found at (ap (λ (s : memory.Storage). current (directory s) (codes "j") name) inner ∙ here) in
    let there : durable (inner_of self.store) at ≡ Some bytes = sym (ap (λ (s : memory.Storage). durable s at) inner) ∙ found in
    let edits = found_now c.records.ensures.kept c.records.ensures.found rule self.store self.journal self.unsettled.edits.items bytes self.kept there in
    let told : Same (bound c.in_ok-names.names) (names_told rule c.deref.result.now) =
    λ e. c.in_ok-names.ensures.names e ∙ ap (λ r. names_told r c.deref.result.now e) by in
    let chosen = chosen_of (found_in bytes) in
    let same : Same (bound c.in_ok-names.names) (names_kept rule chosen (told_in self)) =
    λ e. told e ∙ ap (λ l. names_told rule l e) c.deref.ensures.value ∙ ap (λ es. all_edited (λ _. None) es e) edits in
    record { chosen = chosen; finds = c.in_ok-tree.ensures.finds (names_kept rule chosen (told_in self)) same }

pub returns-clause-same : goal.returns-clause-same
returns-clause-same g c = λ inode.
    let self = c.args.self.now in
    let mid = c.set_config.new.self in
    let inner : inner_of mid ≡ inner_of self.store = ap (λ (s : OverMemory g.row.R.Denot). inner_of s) c.set_config.ensures.set in
    blob_twice (codes "f") (file_name inode) self.store mid c.open.new.store
    (blob_same (codes "f") (file_name inode) self.store mid (ap (λ (s : memory.Storage). directory s) inner) (ap (λ (s : memory.Storage). durable s) inner))
    (c.in_ok-bytes.ensures.blobs (file_name inode))

pub returns-in_err-bytes-clause-still : goal.returns-in_err-bytes-clause-still
returns-in_err-bytes-clause-still g c = open_set _ _ c.set_config.new.self c.default.result c.set_config.ensures.set c.open.ensures.keeps

pub returns-in_err-names-clause-still : goal.returns-in_err-names-clause-still
returns-in_err-names-clause-still g c = open_set _ _ c.set_config.new.self c.default.result c.set_config.ensures.set c.open.ensures.keeps

pub returns-in_err-edits-clause-still : goal.returns-in_err-edits-clause-still
returns-in_err-edits-clause-still g c = open_set _ _ c.set_config.new.self c.default.result c.set_config.ensures.set c.open.ensures.keeps

pub returns-in_err-tree-clause-still : goal.returns-in_err-tree-clause-still
returns-in_err-tree-clause-still g c = open_set _ _ c.set_config.new.self c.default.result c.set_config.ensures.set c.open.ensures.keeps

pub returns-clause-still : goal.returns-clause-still
returns-clause-still g c = open_set _ _ c.set_config.new.self c.default.result c.set_config.ensures.set c.open.ensures.keeps

pub returns-in_err-bytes-clause-keeps : goal.returns-in_err-bytes-clause-keeps
returns-in_err-bytes-clause-keeps g c = record { names = refl; told = refl; unsettled = refl; log = refl }

pub returns-in_err-names-clause-keeps : goal.returns-in_err-names-clause-keeps
returns-in_err-names-clause-keeps g c = record { names = refl; told = refl; unsettled = refl; log = refl }

pub returns-in_err-edits-clause-keeps : goal.returns-in_err-edits-clause-keeps
returns-in_err-edits-clause-keeps g c = record { names = refl; told = refl; unsettled = refl; log = refl }

pub returns-in_err-tree-clause-keeps : goal.returns-in_err-tree-clause-keeps
returns-in_err-tree-clause-keeps g c = record { names = refl; told = refl; unsettled = refl; log = refl }

pub returns-clause-keeps : goal.returns-clause-keeps
returns-clause-keeps g c = record { names = refl; told = refl; unsettled = refl; log = refl }
