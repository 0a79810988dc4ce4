use Rattle.std.proofs.Common.{◌<◌, ◌≤◌, ◌^◌, ℕ, ap, length, sym, subst, ◌∙◌, arith, Some, ◌≡◌, ◌+◌, List, Option, ap₂, false, inl, inr, max, true, ⊎_elim}
use Rattle.std.proofs.Math.Logic.{∥∥₁_elim}
use Rattle.std.specs.BTreeMap.{BTreeMap, get}
use Rattle.std.specs.Coded.{Coded-set, coded_list, coded_option, coded_ℕ}
use Rattle.std.specs.Ordering.{nat_cmp, is_eq}
use Rattle.std.specs.Prelude.{option_map}
use Rattle.blob_model.specs.Draws.{chosen_by}
use Rattle.blob_model.specs.Log.{replay_log, Entry}
use Rattle.blob_draws.specs.Rows.{table_of}
use Rattle.blob_journal.specs.declared.journaled.Journaled.{Journaled}
use Rattle.blob_journal.specs.declared.store.FileBlob.{FileBlob}
use Rattle.blob_journal.specs.Blobs.{IsCurrent, crashed_file, bytes_of}
use Rattle.blob_journal.specs.Fixed.{ChangesOpen, IsBeside, IsOpen}
use Rattle.blob_fs.specs.declared.file_system.File.{File}
use Rattle.blob_fs.specs.declared.file_system.Options.{Options}
use Rattle.blob_fs.specs.Files.{descriptor_number}
use Rattle.blob_fs.proofs.Calls.{was_ok}
use Rattle.blob_fs.specs.Open.{KeepsCutsOf}
use Rattle.blob_fs.proofs.Fixed.{changes_again, contents_same, contents_through, cuts_from, cuts_of, cuts_same, cuts_set, fixed_after, fixed_twice, keeps_spared, sets_through, still_self, synced_kept}
use Rattle.blob_fs.proofs.Named.{same_at_most}
use Rattle.std.proofs.lemmas.Bool.{cond-true}
use Rattle.blob_model.specs.Bytes.{write_live}
use Rattle.blob_fs.proofs.Reading.{read_blob, shows_grown}
use Rattle.blob_fs.proofs.Recovering.{key_self}
use Rattle.blob_model.specs.Files.{all_logged}
use Rattle.blob_model.specs.Rates.{Rate}
use Rattle.blob_model.specs.declared.mode.PartialWriteMode.{PartialWriteMode}
use Rattle.blob_draws.specs.Changes.{loose}
use Rattle.blob_draws.specs.Faults.{retention}
use Rattle.blob_draws.specs.declared.config.Config.{Config}
use Rattle.blob_memory.specs.Store.{place}
use Rattle.blob_faulty.specs.Keeps.{IsFor}
use Rattle.blob_faulty.specs.Wrapper.{inside, size_of}
use Rattle.blob_journal.specs.Journals.{store_of}
use Rattle.blob_journal.specs.Writes.{entries_of_write as journal_entries}
use Rattle.blob_fs.specs.Writes.{KeepsAsSet, entries_of_write, faults_of, leaves_zeros, profile_of, rates_of}
use Rattle.blob_fs.proofs.Zeroing.{end_there, none_below}
use Rattle.blob_directory.specs.declared.profile.Profile.{Profile}
use Rattle.blob_fs.proofs.Standing.{standing_changed, standing_none, standing_through}
use Rattle.blob_fs.proofs.file_system.FileSystem.write.Goals as goal

pub returns-in_err-begin_call-clause-fixed : goal.returns-in_err-begin_call-clause-fixed
returns-in_err-begin_call-clause-fixed g c = λ inode at byte below spared f. c.begin_call.ensures.keeps.fixed inode at byte below f

pub returns-in_err-inode-clause-fixed : goal.returns-in_err-inode-clause-fixed
returns-in_err-inode-clause-fixed g c = λ inode at byte below spared f. c.begin_call.ensures.keeps.fixed inode at byte below f

pub returns-in_err-extent-clause-fixed : goal.returns-in_err-extent-clause-fixed
returns-in_err-extent-clause-fixed g c = λ inode at byte below spared f. c.begin_call.ensures.keeps.fixed inode at byte below f

pub returns-in_err-check_room-clause-fixed : goal.returns-in_err-check_room-clause-fixed
returns-in_err-check_room-clause-fixed g c = λ inode at byte below spared f. c.begin_call.ensures.keeps.fixed inode at byte below f

pub returns-in_default-clause-fixed : goal.returns-in_default-clause-fixed
returns-in_default-clause-fixed g c = λ inode at byte below spared f. c.draw_growth.ensures.drawn.fixed inode at byte below (c.begin_call.ensures.keeps.fixed inode at byte below f)

pub returns-in_err-zeros-clause-fixed : goal.returns-in_err-zeros-clause-fixed
returns-in_err-zeros-clause-fixed g c = λ inode at byte below spared f. c.begin_call.ensures.keeps.fixed inode at byte below f

pub returns-in_err-zeros-clause-cuts : goal.returns-in_err-zeros-clause-cuts
returns-in_err-zeros-clause-cuts g c = cuts_same c.args.self.now.files c.begin_call.new.self.files c.begin_call.ensures.files.files

pub invariant_of-self : goal.invariant_of-self
invariant_of-self g c =
    let one = c.draw_growth.new.self in
    standing_none one c.get_mut.follows.lender-at-none c.get_mut.follows.holds-at-none

pub returns-in_default-get_mut-clause-fixed : goal.returns-in_default-get_mut-clause-fixed
returns-in_default-get_mut-clause-fixed g c =
    let one = c.draw_growth.new.self in
    let more : one.next_inode ≤ one.next_inode = omega arith in
    λ inode at byte below spared f.
    fixed_after one _ more (contents_same one.files c.get_mut.follows.lender-at-none c.get_mut.follows.holds-at-none) (still_self one.store) inode at byte below
    (c.draw_growth.ensures.drawn.fixed inode at byte below (c.begin_call.ensures.keeps.fixed inode at byte below f))

pub invariant_of-self-in-Break-branch-6 : goal.invariant_of-self-in-Break-branch-6
invariant_of-self-in-Break-branch-6 g c =
    let one = c.draw_growth.new.self in
    let was = c.as_mut-found.result.now in
    let there = ap Some c.as_mut-found.ensures.value ∙ c.in-Some-get_mut.ensures.value in
    let new : File = c.reserve_shown.new.self in
    standing_through one (c.get_mut.follows.lender new) c.in_ok-inode.inode was new there (c.get_mut.follows.holds new) c.reserve_shown.ensures.content (same_at_most (sym c.reserve_shown.ensures.links)) c.reserve_shown.ensures.gone

pub returns-in_err-reserve_shown-clause-fixed : goal.returns-in_err-reserve_shown-clause-fixed
returns-in_err-reserve_shown-clause-fixed g c =
    let one = c.draw_growth.new.self in
    let was = c.as_mut-found.result.now in
    let new : File = c.reserve_shown.new.self in
    let more : one.next_inode ≤ one.next_inode = omega arith in
    λ inode at byte below spared f.
    fixed_after one _ more (contents_through one.files (c.get_mut.follows.lender new) c.in_ok-inode.inode was new (ap Some c.as_mut-found.ensures.value ∙ c.in-Some-get_mut.ensures.value) (c.get_mut.follows.holds new) c.reserve_shown.ensures.content)
    (still_self one.store) inode at byte below (c.draw_growth.ensures.drawn.fixed inode at byte below (c.begin_call.ensures.keeps.fixed inode at byte below f))

pub invariant_of-self-2 : goal.invariant_of-self-2
invariant_of-self-2 g c =
    let one = c.draw_growth.new.self in
    let was = c.as_mut-found.result.now in
    let there = ap Some c.as_mut-found.ensures.value ∙ c.in-Some-get_mut.ensures.value in
    let new : File = c.end_write-now.new.self in
    let spares = IsBeside c.args.offset (length c.args.bytes.now) in
    let changes : ChangesOpen spares one.store was.blob c.write_grown-written.new.store new.blob =
    changes_again spares one.store c.write_grown-written.new.store c.reserve_shown.new.self.blob c.write_grown-written.new.blob was.blob new.blob
    c.reserve_shown.ensures.content.blob c.end_write-now.ensures.content.blob c.write_grown-written.ensures.still in
    standing_changed spares one c.write_grown-written.new.store (c.get_mut.follows.lender new) c.in_ok-inode.inode was new (omega arith) there (c.get_mut.follows.holds new) changes
    (same_at_most (sym (c.end_write-now.ensures.links ∙ c.reserve_shown.ensures.links))) (c.end_write-now.ensures.gone ∙ c.reserve_shown.ensures.gone) c.write_grown-written.ensures.keeps

pub returns-in-Ok-clause-recorded : goal.returns-in-Ok-clause-recorded
returns-in-Ok-clause-recorded g c = λ by_mode no_zeros.
    let fs = c.args.self.now in
    let begun = c.begin_call.new.self in
    let one = c.draw_growth.new.self in
    let same = c.begin_call.ensures.files in
    let drawn = c.draw_growth.ensures.drawn in
    let crashes = c.in_ok-begin_call.ensures.crashes in
    let inode = c.in_ok-inode.inode in
    let found : File = c.as_mut-found.result.now in
    let there = ap Some c.as_mut-found.ensures.value ∙ c.in-Some-get_mut.ensures.value in
    let small : inode < 2 ^ 64 = omega arith in
    let opened = ap (λ (m : BTreeMap ℕ ℕ). get nat_cmp m (descriptor_number c.args.file)) (sym same.opens) ∙ c.in_ok-inode.ensures in
    let filed = ap (λ (m : BTreeMap ℕ File). get nat_cmp m inode) (sym (drawn.files.files ∙ same.files)) ∙ sym there in
    let end = end_there fs c.args.file inode found opened filed ∙ c.in_ok-extent.ensures found (ap (λ (m : BTreeMap ℕ File). get nat_cmp m inode) (sym drawn.files.files) ∙ sym there) in
    let plain : leaves_zeros (profile_of begun) c.in_ok-extent.extent.end c.args.offset (c.args.offset + length c.args.bytes.now) ≡ false =
    ap₂ (λ (p : Profile) (size : ℕ). leaves_zeros p size c.args.offset (c.args.offset + length c.args.bytes.now)) (ap (λ (o : Options). o.profile) same.options) (sym end) ∙ no_zeros in
    let none : length c.in_ok-zeros.zeros ≡ 0 = c.in_ok-zeros.ensures.none
    (none_below (profile_of begun) c.in_ok-extent.extent.end c.args.offset (c.args.offset + length c.args.bytes.now) c.saturating_add-end.result (omega (arith, c.saturating_add-end.ensures)) plain) in
    let empty_zeros : c.is_empty.result ≡ true = grind (arith, none, c.is_empty.ensures) in
    let how = c.in-Some.ensures.how (ap (λ (o : Options). o.failed_write) same.options ∙ by_mode) in
    let offset = c.args.offset in
    let bytes = c.args.bytes.now in
    let set : KeepsAsSet begun = ap (λ (r : Config). retention r.write_rate) (c.in_ok-begin_call.ensures.rates ∙ sym (ap (λ (o : Options). o.faults) same.options)) in
    let kept : retention (rates_of one).write_rate ≡ retention (faults_of fs).write_rate = c.in-Some.ensures.rates empty_zeros set ∙ ap (λ (o : Options). retention o.faults.write_rate) (drawn.files.options ∙ same.options) in
    let entries : journal_entries (store_of one.store) offset bytes ≡ entries_of_write fs offset bytes =
    ap₂ (λ (k : Option (PartialWriteMode × Rate)) (n : ℕ). loose k n offset bytes) kept (drawn.crashes.next_write ∙ crashes.next_write) in
    was_ok c.write_grown-written.result _ c.in-Ok.is c.write_grown-written.ensures.recorded (λ recorded.
    let empty : length c.chosen-zeros.result.now ≡ 0 =
    ⊎_elim (λ same. ap (λ (l : List ℕ). length l) (same ∙ c.as_slice.ensures) ∙ none) (λ e. ap (λ (l : List ℕ). length l) e) c.chosen-zeros.ensures in
    let written = recorded how empty in
    record {
      inode = inode;
      opened = opened;
      old = found;
      there = filed;
      logged = λ files for.
          subst (λ (j : Journaled g.row.R.Denot). IsFor (store_of j) (all_logged files (place (inside found.blob.blob)) (entries_of_write fs offset bytes))) (sym c.count.ensures.store)
          (subst (λ (l : List Entry). IsFor (store_of c.write_grown-written.new.store) (all_logged files (place (inside found.blob.blob)) l)) entries
          (subst (λ (b : FileBlob). IsFor (store_of c.write_grown-written.new.store) (all_logged files (place (inside b.blob)) (journal_entries (store_of one.store) offset bytes))) c.reserve_shown.ensures.content.blob
          (written.logged files (drawn.crashes.stands files (crashes.stands files for)))));
      left = λ kept.
          ap (λ (j : Journaled g.row.R.Denot). crashed_file j kept inode) c.count.ensures.store
          ∙ ∥∥₁_elim one.opened (Coded-set (coded_option (coded_list coded_ℕ)) _ _) (λ each.
          written.left inode kept
          (subst (λ (b : FileBlob). IsCurrent one.store inode b) (sym c.reserve_shown.ensures.content.blob) (each inode found small (sym there)).is.current))
          ∙ ap₂ (λ (l : List Entry) (x : Option (List ℕ)). option_map (λ y. replay_log y l (chosen_by (table_of kept))) x) entries (drawn.crashes.left inode kept ∙ crashes.left inode kept);
    })

pub returns-clause-fixed : goal.returns-clause-fixed
returns-clause-fixed g c =
    let one = c.draw_growth.new.self in
    let was = c.as_mut-found.result.now in
    let there = ap Some c.as_mut-found.ensures.value ∙ c.in-Some-get_mut.ensures.value in
    let new : File = c.end_write-now.new.self in
    let spares = IsBeside c.args.offset (length c.args.bytes.now) in
    let sets = sets_through one.files (c.get_mut.follows.lender new) c.in_ok-inode.inode was new there (c.get_mut.follows.holds new) in
    let changes : ChangesOpen spares one.store was.blob c.write_grown-written.new.store new.blob =
    changes_again spares one.store c.write_grown-written.new.store c.reserve_shown.new.self.blob c.write_grown-written.new.blob was.blob new.blob
    c.reserve_shown.ensures.content.blob c.end_write-now.ensures.content.blob c.write_grown-written.ensures.still in
    let opens = ap (λ (m : BTreeMap ℕ ℕ). get nat_cmp m (descriptor_number c.args.file)) (sym c.begin_call.ensures.files.opens) ∙ c.in_ok-inode.ensures in
    let small : c.in_ok-inode.inode < 2 ^ 64 = omega arith in
    keeps_spared c.args.self.now one c.count.new.self c.args.file spares c.write_grown-written.new.store (c.get_mut.follows.lender new) c.in_ok-inode.inode was new opens (fixed_twice c.args.self.now c.begin_call.new.self one c.begin_call.ensures.keeps.fixed c.draw_growth.ensures.drawn.fixed)
    c.count.ensures.number c.count.ensures.files.files c.count.ensures.store small there sets changes
    (λ at s. synced_kept at was new (c.end_write-now.ensures.content.synced ∙ c.reserve_shown.ensures.content.synced) (c.end_write-now.ensures.content.truncations ∙ c.reserve_shown.ensures.content.truncations)) one.opened

pub returns-in-Ok-clause-fixed : goal.returns-in-Ok-clause-fixed
returns-in-Ok-clause-fixed g c =
    let one = c.draw_growth.new.self in
    let was = c.as_mut-found.result.now in
    let there = ap Some c.as_mut-found.ensures.value ∙ c.in-Some-get_mut.ensures.value in
    let new : File = c.end_write-now.new.self in
    let spares = IsBeside c.args.offset (length c.args.bytes.now) in
    let sets = sets_through one.files (c.get_mut.follows.lender new) c.in_ok-inode.inode was new there (c.get_mut.follows.holds new) in
    let changes : ChangesOpen spares one.store was.blob c.write_grown-written.new.store new.blob =
    changes_again spares one.store c.write_grown-written.new.store c.reserve_shown.new.self.blob c.write_grown-written.new.blob was.blob new.blob
    c.reserve_shown.ensures.content.blob c.end_write-now.ensures.content.blob c.write_grown-written.ensures.still in
    let opens = ap (λ (m : BTreeMap ℕ ℕ). get nat_cmp m (descriptor_number c.args.file)) (sym c.begin_call.ensures.files.opens) ∙ c.in_ok-inode.ensures in
    let small : c.in_ok-inode.inode < 2 ^ 64 = omega arith in
    keeps_spared c.args.self.now one c.count.new.self c.args.file spares c.write_grown-written.new.store (c.get_mut.follows.lender new) c.in_ok-inode.inode was new opens (fixed_twice c.args.self.now c.begin_call.new.self one c.begin_call.ensures.keeps.fixed c.draw_growth.ensures.drawn.fixed)
    c.count.ensures.number c.count.ensures.files.files c.count.ensures.store small there sets changes
    (λ at s. synced_kept at was new (c.end_write-now.ensures.content.synced ∙ c.reserve_shown.ensures.content.synced) (c.end_write-now.ensures.content.truncations ∙ c.reserve_shown.ensures.content.truncations)) one.opened

pub returns-in_err-begin_call-clause-cuts : goal.returns-in_err-begin_call-clause-cuts
returns-in_err-begin_call-clause-cuts g c = cuts_same c.args.self.now.files c.begin_call.new.self.files c.begin_call.ensures.files.files

pub returns-in_err-inode-clause-cuts : goal.returns-in_err-inode-clause-cuts
returns-in_err-inode-clause-cuts g c = cuts_same c.args.self.now.files c.begin_call.new.self.files c.begin_call.ensures.files.files

pub returns-in_err-extent-clause-cuts : goal.returns-in_err-extent-clause-cuts
returns-in_err-extent-clause-cuts g c = cuts_same c.args.self.now.files c.begin_call.new.self.files c.begin_call.ensures.files.files

pub returns-in_err-check_room-clause-cuts : goal.returns-in_err-check_room-clause-cuts
returns-in_err-check_room-clause-cuts g c = cuts_same c.args.self.now.files c.begin_call.new.self.files c.begin_call.ensures.files.files

pub returns-in_default-clause-cuts : goal.returns-in_default-clause-cuts
returns-in_default-clause-cuts g c = cuts_same c.args.self.now.files c.draw_growth.new.self.files (c.draw_growth.ensures.drawn.files.files ∙ c.begin_call.ensures.files.files)

pub returns-in_default-get_mut-clause-cuts : goal.returns-in_default-get_mut-clause-cuts
returns-in_default-get_mut-clause-cuts g c =
    let one = c.draw_growth.new.self in
    cuts_from c.args.self.now.files one.files c.get_mut.follows.lender-at-none (c.draw_growth.ensures.drawn.files.files ∙ c.begin_call.ensures.files.files)
    (cuts_same one.files c.get_mut.follows.lender-at-none c.get_mut.follows.holds-at-none)

pub returns-in_err-reserve_shown-clause-cuts : goal.returns-in_err-reserve_shown-clause-cuts
returns-in_err-reserve_shown-clause-cuts g c =
    let one = c.draw_growth.new.self in
    let was = c.as_mut-found.result.now in
    let new : File = c.reserve_shown.new.self in
    cuts_from c.args.self.now.files one.files (c.get_mut.follows.lender new) (c.draw_growth.ensures.drawn.files.files ∙ c.begin_call.ensures.files.files)
    (cuts_of one.files (c.get_mut.follows.lender new) (contents_through one.files (c.get_mut.follows.lender new) c.in_ok-inode.inode was new (ap Some c.as_mut-found.ensures.value ∙ c.in-Some-get_mut.ensures.value) (c.get_mut.follows.holds new) c.reserve_shown.ensures.content))

pub returns-clause-cuts : goal.returns-clause-cuts
returns-clause-cuts g c =
    let one = c.draw_growth.new.self in
    let was = c.as_mut-found.result.now in
    let there = ap Some c.as_mut-found.ensures.value ∙ c.in-Some-get_mut.ensures.value in
    let new : File = c.end_write-now.new.self in
    let sets = sets_through one.files (c.get_mut.follows.lender new) c.in_ok-inode.inode was new there (c.get_mut.follows.holds new) in
    cuts_from c.args.self.now.files one.files c.count.new.self.files (c.draw_growth.ensures.drawn.files.files ∙ c.begin_call.ensures.files.files)
    (subst (λ (m : BTreeMap ℕ File). KeepsCutsOf one.files m) (sym c.count.ensures.files.files)
    (cuts_set one.files (c.get_mut.follows.lender new) c.in_ok-inode.inode was new there sets (record {
      synced = c.end_write-now.ensures.content.synced ∙ c.reserve_shown.ensures.content.synced;
      truncations = c.end_write-now.ensures.content.truncations ∙ c.reserve_shown.ensures.content.truncations;
    })))

pub returns-in-Ok-clause-cuts : goal.returns-in-Ok-clause-cuts
returns-in-Ok-clause-cuts g c =
    let one = c.draw_growth.new.self in
    let was = c.as_mut-found.result.now in
    let there = ap Some c.as_mut-found.ensures.value ∙ c.in-Some-get_mut.ensures.value in
    let new : File = c.end_write-now.new.self in
    let sets = sets_through one.files (c.get_mut.follows.lender new) c.in_ok-inode.inode was new there (c.get_mut.follows.holds new) in
    cuts_from c.args.self.now.files one.files c.count.new.self.files (c.draw_growth.ensures.drawn.files.files ∙ c.begin_call.ensures.files.files)
    (subst (λ (m : BTreeMap ℕ File). KeepsCutsOf one.files m) (sym c.count.ensures.files.files)
    (cuts_set one.files (c.get_mut.follows.lender new) c.in_ok-inode.inode was new there sets (record {
      synced = c.end_write-now.ensures.content.synced ∙ c.reserve_shown.ensures.content.synced;
      truncations = c.end_write-now.ensures.content.truncations ∙ c.reserve_shown.ensures.content.truncations;
    })))

pub write_grown-written-requires : goal.write_grown-written-requires
write_grown-written-requires g c =
    let fs = c.args.self.now in
    let found : File = c.as_mut-found.result.now in
    let there = ap Some c.as_mut-found.ensures.value ∙ c.in-Some-get_mut.ensures.value in
    let end = c.in_ok-extent.ensures found (ap (λ (m : BTreeMap ℕ File). get nat_cmp m c.in_ok-inode.inode) (sym c.draw_growth.ensures.drawn.files.files) ∙ sym there) in
    let same : size_of c.reserve_shown.new.self.blob.blob ≡ size_of found.blob.blob = ap (λ (b : FileBlob). size_of b.blob) c.reserve_shown.ensures.content.blob in
    omega (arith, same, end)

pub returns-in-Ok-clause-shows : goal.returns-in-Ok-clause-shows
returns-in-Ok-clause-shows g c = λ by_mode.
    let begun = c.begin_call.new.self in
    let one = c.draw_growth.new.self in
    let same = c.begin_call.ensures.files in
    let drawn = c.draw_growth.ensures.drawn in
    let inode = c.in_ok-inode.inode in
    let found : File = c.as_mut-found.result.now in
    let there = ap Some c.as_mut-found.ensures.value ∙ c.in-Some-get_mut.ensures.value in
    let small : inode < 2 ^ 64 = omega arith in
    let new : File = c.end_write-now.new.self in
    let blob = c.reserve_shown.new.self.blob in
    let offset = c.args.offset in
    let bytes = c.args.bytes.now in
    let from = c.in_ok-extent.extent.end in
    let size : size_of found.blob.blob ≡ from = c.in_ok-extent.ensures found (ap (λ (m : BTreeMap ℕ File). get nat_cmp m inode) (sym drawn.files.files) ∙ sym there) in
    let how = c.in-Some.ensures.how (ap (λ (o : Options). o.failed_write) same.options ∙ by_mode) in
    let less : from + length c.in_ok-zeros.zeros ≤ max from (offset + length bytes) = omega (arith, c.in_ok-zeros.ensures.within, c.saturating_add-end.ensures) in
    let sets = sets_through one.files (c.get_mut.follows.lender new) inode found new there (c.get_mut.follows.holds new) in
    was_ok c.write_grown-written.result _ c.in-Ok.is c.write_grown-written.ensures.shows (λ shows. record {
      inode = inode;
      was = found;
      is = record {
        opened = ap (λ (m : BTreeMap ℕ ℕ). get nat_cmp m (descriptor_number c.args.file)) (sym same.opens) ∙ c.in_ok-inode.ensures;
        there = ap (λ (m : BTreeMap ℕ File). get nat_cmp m inode) (sym (drawn.files.files ∙ same.files)) ∙ sym there;
      };
      now = new;
      there = ap (λ (m : BTreeMap ℕ File). get nat_cmp m inode) c.count.ensures.files.files ∙ sets inode ∙ cond-true (is_eq (nat_cmp inode inode)) (Some new) _ (key_self inode);
      seen = λ none.
          read_blob new (c.end_write-now.ensures.shown (c.reserve_shown.ensures.shown none))
          ∙ ap (λ (b : FileBlob). bytes_of b) c.end_write-now.ensures.content.blob
          ∙ ∥∥₁_elim one.opened (Coded-set (coded_list coded_ℕ) _ _) (λ each.
          shows_grown one.store inode blob c.write_grown-written.new.blob from offset c.in_ok-zeros.zeros c.chosen-zeros.result.now bytes
          (subst (λ (b : FileBlob). IsOpen one.store inode b) (sym c.reserve_shown.ensures.content.blob) (each inode found small (sym there)))
          (ap (λ (b : FileBlob). size_of b.blob) c.reserve_shown.ensures.content.blob ∙ size) c.in_ok-zeros.ensures.zeros less
          (⊎_elim (λ e. inl (e ∙ c.as_slice.ensures)) inr c.chosen-zeros.ensures) (shows how))
          ∙ ap (λ (b : FileBlob). write_live (bytes_of b) offset bytes) c.reserve_shown.ensures.content.blob
          ∙ ap (λ (l : List ℕ). write_live l offset bytes) (sym (read_blob found none));
    })
