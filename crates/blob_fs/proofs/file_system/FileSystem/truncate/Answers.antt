use Rattle.std.proofs.Common.{◌≡◌, ◌<◌, ◌≤◌, ◌^◌, ◌∷◌, [], ◌++◌, List, Some, false, ℕ, ap, inl, inr, sym, refl, ◌∙◌, arith, subst}
use Rattle.blob_journal.specs.Fixed.{ChangesOpen, KeepsOpen}
use Rattle.std.specs.BTreeMap.{BTreeMap, get}
use Rattle.std.proofs.lemmas.Bool.{cond-true}
use Rattle.std.specs.Ordering.{is_eq, nat_cmp}
use Rattle.blob_directory.specs.declared.unsettled.Unsettled.{Unsettled}
use Rattle.blob_directory.specs.Names.{resizes}
use Rattle.blob_directory.specs.Records.{Found}
use Rattle.blob_journal.specs.Settling.{unsettled_of}
use Rattle.blob_fs.specs.Bytes.{file_in}
use Rattle.blob_fs.specs.Noted.{ResizesOpen, truncations_in}
use Rattle.blob_fs.proofs.Recovering.{key_self}
use Rattle.blob_fs.specs.declared.file_system.File.{File}
use Rattle.blob_fs.specs.declared.truncation.Truncation.{Truncation}
use Rattle.blob_fs.specs.Fixed.{KeepsFixed}
use Rattle.blob_fs.specs.Files.{descriptor_number}
use Rattle.blob_fs.proofs.Fixed.{changes_cut, contents_same, contents_through, fixed_after, fixed_twice, keeps_spared, sets_through, still_self, still_twice, synced_kept, synced_more}
use Rattle.blob_fs.proofs.Named.{same_at_most}
use Rattle.blob_faulty.specs.Wrapper.{next_write_of, size_of}
use Rattle.blob_journal.specs.Journals.{store_of}
use Rattle.blob_journal.specs.declared.store.FileBlob.{FileBlob}
use Rattle.blob_fs.proofs.Sizing.{resized_size}
use Rattle.blob_fs.proofs.Standing.{standing_lent, standing_none, standing_through, standing_truncated}
use Rattle.blob_fs.proofs.States.{edits_twice}
use Rattle.blob_fs.proofs.file_system.FileSystem.truncate.Goals as goal

pub returns-in_err-begin_call-clause-fixed : goal.returns-in_err-begin_call-clause-fixed
returns-in_err-begin_call-clause-fixed g c = λ inode at byte below spared f. c.begin_call.ensures.keeps.fixed inode at byte below f

pub returns-in_err-inode-clause-fixed : goal.returns-in_err-inode-clause-fixed
returns-in_err-inode-clause-fixed g c = λ inode at byte below spared f. c.begin_call.ensures.keeps.fixed inode at byte below f

pub returns-in_err-size-clause-fixed : goal.returns-in_err-size-clause-fixed
returns-in_err-size-clause-fixed g c = λ inode at byte below spared f. c.begin_call.ensures.keeps.fixed inode at byte below f

pub returns-in_err-check_room-clause-fixed : goal.returns-in_err-check_room-clause-fixed
returns-in_err-check_room-clause-fixed g c = λ inode at byte below spared f. c.begin_call.ensures.keeps.fixed inode at byte below f

pub returns-in_err-reached-clause-fixed : goal.returns-in_err-reached-clause-fixed
returns-in_err-reached-clause-fixed g c = λ inode at byte below spared f. c.draw_truncation.ensures.drawn.fixed inode at byte below (c.begin_call.ensures.keeps.fixed inode at byte below f)

pub returns-then-not-is_failed-clause-fixed : goal.returns-then-not-is_failed-clause-fixed
returns-then-not-is_failed-clause-fixed g c =
    let fs = c.args.self.now in
    let one = c.draw_truncation.new.self in
    let keeps : KeepsFixed fs one = fixed_twice fs c.begin_call.new.self one c.begin_call.ensures.keeps.fixed c.draw_truncation.ensures.drawn.fixed in
    λ inode at byte below spared f. keeps inode at byte below f

pub invariant_of-self : goal.invariant_of-self
invariant_of-self g c =
    let one = c.draw_truncation.new.self in
    standing_none one c.get_mut.follows.lender-at-none c.get_mut.follows.holds-at-none

pub returns-in_default-clause-fixed : goal.returns-in_default-clause-fixed
returns-in_default-clause-fixed g c =
    let fs = c.args.self.now in
    let one = c.draw_truncation.new.self in
    let keeps : KeepsFixed fs one = fixed_twice fs c.begin_call.new.self one c.begin_call.ensures.keeps.fixed c.draw_truncation.ensures.drawn.fixed in
    let more : one.next_inode ≤ one.next_inode = omega arith in
    λ inode at byte below spared f.
    fixed_after one _ more (contents_same one.files c.get_mut.follows.lender-at-none c.get_mut.follows.holds-at-none) (still_self one.store) inode at byte below (keeps inode at byte below f)

pub invariant_of-self-in-Break-branch-7 : goal.invariant_of-self-in-Break-branch-7
invariant_of-self-in-Break-branch-7 g c =
    let one = c.draw_truncation.new.self in
    let was = c.as_mut-found.result.now in
    let there = ap Some c.as_mut-found.ensures.value ∙ c.in-Some.ensures.value in
    let new : File = c.reserve_shown.new.self in
    standing_through one (c.get_mut.follows.lender new) c.in_ok-inode.inode was new there (c.get_mut.follows.holds new) c.reserve_shown.ensures.content (same_at_most (sym c.reserve_shown.ensures.links)) c.reserve_shown.ensures.gone

pub returns-in_err-reserve_shown-clause-fixed : goal.returns-in_err-reserve_shown-clause-fixed
returns-in_err-reserve_shown-clause-fixed g c =
    let fs = c.args.self.now in
    let one = c.draw_truncation.new.self in
    let keeps : KeepsFixed fs one = fixed_twice fs c.begin_call.new.self one c.begin_call.ensures.keeps.fixed c.draw_truncation.ensures.drawn.fixed in
    let more : one.next_inode ≤ one.next_inode = omega arith in
    let was = c.as_mut-found.result.now in
    let new : File = c.reserve_shown.new.self in
    λ inode at byte below spared f.
    fixed_after one _ more
    (contents_through one.files (c.get_mut.follows.lender new) c.in_ok-inode.inode was new (ap Some c.as_mut-found.ensures.value ∙ c.in-Some.ensures.value) (c.get_mut.follows.holds new) c.reserve_shown.ensures.content)
    (still_self one.store) inode at byte below (keeps inode at byte below f)

pub invariant_of-self-in-Break-branch-8 : goal.invariant_of-self-in-Break-branch-8
invariant_of-self-in-Break-branch-8 g c =
    let one = c.draw_truncation.new.self in
    let was = c.as_mut-found.result.now in
    let there = ap Some c.as_mut-found.ensures.value ∙ c.in-Some.ensures.value in
    let new : File = record c.reserve_shown.new.self { truncations = c.reserve.new.self } in
    standing_through one (c.get_mut.follows.lender new) c.in_ok-inode.inode was new there (c.get_mut.follows.holds new) (record { blob = c.reserve_shown.ensures.content.blob; synced = c.reserve_shown.ensures.content.synced; truncations = c.reserve.ensures.items ∙ c.reserve_shown.ensures.content.truncations }) (same_at_most (sym c.reserve_shown.ensures.links)) c.reserve_shown.ensures.gone

pub returns-in_err-reserve-clause-fixed : goal.returns-in_err-reserve-clause-fixed
returns-in_err-reserve-clause-fixed g c =
    let fs = c.args.self.now in
    let one = c.draw_truncation.new.self in
    let keeps : KeepsFixed fs one = fixed_twice fs c.begin_call.new.self one c.begin_call.ensures.keeps.fixed c.draw_truncation.ensures.drawn.fixed in
    let more : one.next_inode ≤ one.next_inode = omega arith in
    let was = c.as_mut-found.result.now in
    let new : File = record c.reserve_shown.new.self { truncations = c.reserve.new.self } in
    λ inode at byte below spared f.
    fixed_after one _ more
    (contents_through one.files (c.get_mut.follows.lender new) c.in_ok-inode.inode was new (ap Some c.as_mut-found.ensures.value ∙ c.in-Some.ensures.value) (c.get_mut.follows.holds new) (record { blob = c.reserve_shown.ensures.content.blob; synced = c.reserve_shown.ensures.content.synced; truncations = c.reserve.ensures.items ∙ c.reserve_shown.ensures.content.truncations }))
    (still_self one.store) inode at byte below (keeps inode at byte below f)

pub invariant_of-self-in-Break-branch-9 : goal.invariant_of-self-in-Break-branch-9
invariant_of-self-in-Break-branch-9 g c =
    let one = c.draw_truncation.new.self in
    let was = c.as_mut-found.result.now in
    let there = ap Some c.as_mut-found.ensures.value ∙ c.in-Some.ensures.value in
    let new : File = record c.reserve_shown.new.self { truncations = c.reserve.new.self } in
    standing_lent one c.record_truncation.new.self (c.get_mut.follows.lender new) c.in_ok-inode.inode was new there (c.get_mut.follows.holds new)
    (record { blob = c.reserve_shown.ensures.content.blob; synced = c.reserve_shown.ensures.content.synced; truncations = c.reserve.ensures.items ∙ c.reserve_shown.ensures.content.truncations })
    (same_at_most (sym c.reserve_shown.ensures.links)) c.reserve_shown.ensures.gone c.record_truncation.ensures.names.still c.in_err-edit.ensures.refused

pub returns-in_err-edit-clause-fixed : goal.returns-in_err-edit-clause-fixed
returns-in_err-edit-clause-fixed g c =
    let fs = c.args.self.now in
    let one = c.draw_truncation.new.self in
    let keeps : KeepsFixed fs one = fixed_twice fs c.begin_call.new.self one c.begin_call.ensures.keeps.fixed c.draw_truncation.ensures.drawn.fixed in
    let more : one.next_inode ≤ one.next_inode = omega arith in
    let was = c.as_mut-found.result.now in
    let new : File = record c.reserve_shown.new.self { truncations = c.reserve.new.self } in
    λ inode at byte below spared f.
    fixed_after one _ more
    (contents_through one.files (c.get_mut.follows.lender new) c.in_ok-inode.inode was new (ap Some c.as_mut-found.ensures.value ∙ c.in-Some.ensures.value) (c.get_mut.follows.holds new) (record { blob = c.reserve_shown.ensures.content.blob; synced = c.reserve_shown.ensures.content.synced; truncations = c.reserve.ensures.items ∙ c.reserve_shown.ensures.content.truncations }))
    c.record_truncation.ensures.names.still inode at byte below (keeps inode at byte below f)

pub invariant_of-self-in-Break-branch-10 : goal.invariant_of-self-in-Break-branch-10
invariant_of-self-in-Break-branch-10 g c =
    let one = c.draw_truncation.new.self in
    let was = c.as_mut-found.result.now in
    let there = ap Some c.as_mut-found.ensures.value ∙ c.in-Some.ensures.value in
    let new : File = record c.reserve_shown.new.self { blob = c.cut_page.new.blob; truncations = c.reserve.new.self } in
    let spares = λ (at : ℕ). at < c.args.length in
    let still : KeepsOpen one.store c.set_config.new.self = still_twice one.store c.record_truncation.new.self c.set_config.new.self c.record_truncation.ensures.names.still c.set_config.ensures.contents.still in
    let changes : ChangesOpen spares one.store was.blob c.cut_page.new.store new.blob =
    changes_cut one.store c.set_config.new.self c.cut_page.new.store c.args.length c.in_ok-reached.reached c.reserve_shown.new.self.blob c.cut_page.new.blob was.blob new.blob
    c.in_ok-reached.ensures.reached still c.reserve_shown.ensures.content.blob refl c.cut_page.ensures.still in
    standing_truncated (record { may = c.bindings.ensures.one_more; within = c.bindings.ensures.within_one_more; freed = c.bindings.ensures.freed_one_more })
    one c.record_truncation.new.self c.cut_page.new.store (c.get_mut.follows.lender new) c.in_ok-inode.inode was new spares (omega arith) there (c.get_mut.follows.holds new) changes
    (same_at_most (sym c.reserve_shown.ensures.links)) (c.reserve_shown.ensures.gone)
    c.record_truncation.ensures.names.table c.in_ok-edit.ensures.tells.told (edits_twice c.set_config.ensures.contents.edits c.cut_page.ensures.keeps)

pub returns-in_err-cut_page-clause-fixed : goal.returns-in_err-cut_page-clause-fixed
returns-in_err-cut_page-clause-fixed g c =
    let fs = c.args.self.now in
    let one = c.draw_truncation.new.self in
    let keeps : KeepsFixed fs one = fixed_twice fs c.begin_call.new.self one c.begin_call.ensures.keeps.fixed c.draw_truncation.ensures.drawn.fixed in
    let was = c.as_mut-found.result.now in
    let there = ap Some c.as_mut-found.ensures.value ∙ c.in-Some.ensures.value in
    let new : File = record c.reserve_shown.new.self { blob = c.cut_page.new.blob; truncations = c.reserve.new.self } in
    let spares = λ (at : ℕ). at < c.args.length in
    let still : KeepsOpen one.store c.set_config.new.self = still_twice one.store c.record_truncation.new.self c.set_config.new.self c.record_truncation.ensures.names.still c.set_config.ensures.contents.still in
    let sets = sets_through one.files (c.get_mut.follows.lender new) c.in_ok-inode.inode was new there (c.get_mut.follows.holds new) in
    let changes : ChangesOpen spares one.store was.blob c.cut_page.new.store new.blob =
    changes_cut one.store c.set_config.new.self c.cut_page.new.store c.args.length c.in_ok-reached.reached c.reserve_shown.new.self.blob c.cut_page.new.blob was.blob new.blob
    c.in_ok-reached.ensures.reached still c.reserve_shown.ensures.content.blob refl c.cut_page.ensures.still in
    let opens = ap (λ (m : BTreeMap ℕ ℕ). get nat_cmp m (descriptor_number c.args.file)) (sym c.begin_call.ensures.files.opens) ∙ c.in_ok-inode.ensures in
    let small : c.in_ok-inode.inode < 2 ^ 64 = omega arith in
    keeps_spared fs one _ c.args.file spares c.cut_page.new.store (c.get_mut.follows.lender new) c.in_ok-inode.inode was new opens keeps refl refl refl small there sets changes
    (λ at low is. synced_kept at was new c.reserve_shown.ensures.content.synced (c.reserve.ensures.items ∙ c.reserve_shown.ensures.content.truncations) is) one.opened

pub invariant_of-self-2 : goal.invariant_of-self-2
invariant_of-self-2 g c =
    let one = c.draw_truncation.new.self in
    let was = c.as_mut-found.result.now in
    let there = ap Some c.as_mut-found.ensures.value ∙ c.in-Some.ensures.value in
    let new : File = c.end_truncate-now.new.self in
    let spares = λ (at : ℕ). at < c.args.length in
    let still : KeepsOpen one.store c.set_config.new.self = still_twice one.store c.record_truncation.new.self c.set_config.new.self c.record_truncation.ensures.names.still c.set_config.ensures.contents.still in
    let changes : ChangesOpen spares one.store was.blob c.cut_page.new.store new.blob =
    changes_cut one.store c.set_config.new.self c.cut_page.new.store c.args.length c.in_ok-reached.reached c.reserve_shown.new.self.blob c.cut_page.new.blob was.blob new.blob
    c.in_ok-reached.ensures.reached still c.reserve_shown.ensures.content.blob c.end_truncate-now.ensures.content.blob c.cut_page.ensures.still in
    standing_truncated (record { may = c.bindings.ensures.one_more; within = c.bindings.ensures.within_one_more; freed = c.bindings.ensures.freed_one_more })
    one c.record_truncation.new.self c.cut_page.new.store (c.get_mut.follows.lender new) c.in_ok-inode.inode was new spares (omega arith) there (c.get_mut.follows.holds new) changes
    (same_at_most (sym (c.end_truncate-now.ensures.links ∙ c.reserve_shown.ensures.links))) ((c.end_truncate-now.ensures.gone ∙ c.reserve_shown.ensures.gone))
    c.record_truncation.ensures.names.table c.in_ok-edit.ensures.tells.told (edits_twice c.set_config.ensures.contents.edits c.cut_page.ensures.keeps)

pub returns-then-is_failed-clause-fixed : goal.returns-then-is_failed-clause-fixed
returns-then-is_failed-clause-fixed g c =
    let fs = c.args.self.now in
    let one = c.draw_truncation.new.self in
    let keeps : KeepsFixed fs one = fixed_twice fs c.begin_call.new.self one c.begin_call.ensures.keeps.fixed c.draw_truncation.ensures.drawn.fixed in
    let was = c.as_mut-found.result.now in
    let there = ap Some c.as_mut-found.ensures.value ∙ c.in-Some.ensures.value in
    let new : File = c.end_truncate-now.new.self in
    let spares = λ (at : ℕ). at < c.args.length in
    let still : KeepsOpen one.store c.set_config.new.self = still_twice one.store c.record_truncation.new.self c.set_config.new.self c.record_truncation.ensures.names.still c.set_config.ensures.contents.still in
    let sets = sets_through one.files (c.get_mut.follows.lender new) c.in_ok-inode.inode was new there (c.get_mut.follows.holds new) in
    let changes : ChangesOpen spares one.store was.blob c.cut_page.new.store new.blob =
    changes_cut one.store c.set_config.new.self c.cut_page.new.store c.args.length c.in_ok-reached.reached c.reserve_shown.new.self.blob c.cut_page.new.blob was.blob new.blob
    c.in_ok-reached.ensures.reached still c.reserve_shown.ensures.content.blob c.end_truncate-now.ensures.content.blob c.cut_page.ensures.still in
    let opens = ap (λ (m : BTreeMap ℕ ℕ). get nat_cmp m (descriptor_number c.args.file)) (sym c.begin_call.ensures.files.opens) ∙ c.in_ok-inode.ensures in
    let small : c.in_ok-inode.inode < 2 ^ 64 = omega arith in
    let t : Truncation = record { edit = c.in_ok-edit.edit; length = c.in_ok-reached.reached; next_write = c.next_write-next_write.result } in
    let synced = c.end_truncate-now.ensures.content.synced ∙ c.reserve_shown.ensures.content.synced in
    let noted = c.end_truncate-now.ensures.content.truncations ∙ c.push_reserved.ensures.items ∙ ap (λ (l : List Truncation). l ++ t ∷ []) (c.reserve.ensures.items ∙ c.reserve_shown.ensures.content.truncations) in
    keeps_spared fs one c.count.new.self c.args.file spares c.cut_page.new.store (c.get_mut.follows.lender new) c.in_ok-inode.inode was new opens keeps
    c.count.ensures.number c.count.ensures.files.files c.count.ensures.store small there sets changes
    (λ at low is. synced_more at was new t synced noted (omega (arith, low, c.in_ok-reached.ensures.reached)) is) one.opened

pub returns-clause-fixed : goal.returns-clause-fixed
returns-clause-fixed g c =
    let fs = c.args.self.now in
    let one = c.draw_truncation.new.self in
    let keeps : KeepsFixed fs one = fixed_twice fs c.begin_call.new.self one c.begin_call.ensures.keeps.fixed c.draw_truncation.ensures.drawn.fixed in
    let was = c.as_mut-found.result.now in
    let there = ap Some c.as_mut-found.ensures.value ∙ c.in-Some.ensures.value in
    let new : File = c.end_truncate-now.new.self in
    let spares = λ (at : ℕ). at < c.args.length in
    let still : KeepsOpen one.store c.set_config.new.self = still_twice one.store c.record_truncation.new.self c.set_config.new.self c.record_truncation.ensures.names.still c.set_config.ensures.contents.still in
    let sets = sets_through one.files (c.get_mut.follows.lender new) c.in_ok-inode.inode was new there (c.get_mut.follows.holds new) in
    let changes : ChangesOpen spares one.store was.blob c.cut_page.new.store new.blob =
    changes_cut one.store c.set_config.new.self c.cut_page.new.store c.args.length c.in_ok-reached.reached c.reserve_shown.new.self.blob c.cut_page.new.blob was.blob new.blob
    c.in_ok-reached.ensures.reached still c.reserve_shown.ensures.content.blob c.end_truncate-now.ensures.content.blob c.cut_page.ensures.still in
    let opens = ap (λ (m : BTreeMap ℕ ℕ). get nat_cmp m (descriptor_number c.args.file)) (sym c.begin_call.ensures.files.opens) ∙ c.in_ok-inode.ensures in
    let small : c.in_ok-inode.inode < 2 ^ 64 = omega arith in
    let t : Truncation = record { edit = c.in_ok-edit.edit; length = c.in_ok-reached.reached; next_write = c.next_write-next_write.result } in
    let synced = c.end_truncate-now.ensures.content.synced ∙ c.reserve_shown.ensures.content.synced in
    let noted = c.end_truncate-now.ensures.content.truncations ∙ c.push_reserved.ensures.items ∙ ap (λ (l : List Truncation). l ++ t ∷ []) (c.reserve.ensures.items ∙ c.reserve_shown.ensures.content.truncations) in
    keeps_spared fs one c.count.new.self c.args.file spares c.cut_page.new.store (c.get_mut.follows.lender new) c.in_ok-inode.inode was new opens keeps
    c.count.ensures.number c.count.ensures.files.files c.count.ensures.store small there sets changes
    (λ at low is. synced_more at was new t synced noted (omega (arith, low, c.in_ok-reached.ensures.reached)) is) one.opened

pub returns-then-not-is_failed-clause-noted : goal.returns-then-not-is_failed-clause-noted
returns-then-not-is_failed-clause-noted g c =
    let has = c.in_ok-size.ensures in
    let same = c.begin_call.ensures.files in
    record {
      inode = has.inode;
      was = has.was;
      is = record {
        opened = ap (λ (m : BTreeMap ℕ ℕ). get nat_cmp m (descriptor_number c.args.file)) (sym same.opens) ∙ has.is.opened;
        there = ap (λ (m : BTreeMap ℕ File). get nat_cmp m has.inode) (sym same.files) ∙ has.is.there;
      };
      notes = inl (has.size ∙ sym c.if-length-size.true);
    }

pub returns-clause-noted : goal.returns-clause-noted
returns-clause-noted g c =
    let fs = c.args.self.now in
    let one = c.draw_truncation.new.self in
    let was = c.as_mut-found.result.now in
    let there = ap Some c.as_mut-found.ensures.value ∙ c.in-Some.ensures.value in
    let new : File = c.end_truncate-now.new.self in
    let inode = c.in_ok-inode.inode in
    let drawn = c.draw_truncation.ensures.drawn in
    let before = c.begin_call.ensures.files in
    let sets = sets_through one.files (c.get_mut.follows.lender new) inode was new there (c.get_mut.follows.holds new) in
    let t : Truncation = record { edit = c.in_ok-edit.edit; length = c.in_ok-reached.reached; next_write = c.next_write-next_write.result } in
    let noted = c.end_truncate-now.ensures.content.truncations ∙ c.push_reserved.ensures.items ∙ ap (λ (l : List Truncation). l ++ t ∷ []) (c.reserve.ensures.items ∙ c.reserve_shown.ensures.content.truncations) in
    let added = c.in_ok-edit.ensures.noted in
    let there : file_in fs inode ≡ Some was = ap (λ (m : BTreeMap ℕ File). get nat_cmp m inode) (sym (drawn.files.files ∙ before.files)) ∙ sym there in
    let now : file_in c.count.new.self inode ≡ Some new =
    ap (λ (m : BTreeMap ℕ File). get nat_cmp m inode) c.count.ensures.files.files ∙ sets inode ∙ cond-true (is_eq (nat_cmp inode inode)) (Some new) (get nat_cmp one.files inode) (key_self inode) in
    record {
      inode = inode;
      was = was;
      is = record {
        opened = ap (λ (m : BTreeMap ℕ ℕ). get nat_cmp m (descriptor_number c.args.file)) (sym before.opens) ∙ c.in_ok-inode.ensures;
        there = there;
      };
      notes = inr (record {
        truncation = t;
        long = c.in_ok-reached.ensures.whole c.if-is_failed.false;
        edit = record {
          last = added.last;
          is = ap (λ j. unsettled_of j) c.count.ensures.store ∙ c.cut_page.ensures.keeps.unsettled ∙ c.set_config.ensures.contents.journal.unsettled ∙ added.is
              ∙ ap (λ (us : List Unsettled). us ++ added.last ∷ []) (drawn.unsettled ∙ c.in_ok-begin_call.ensures.journal.unsettled);
          edit = added.edit;
          about = added.about;
          number = added.number;
        };
        next = c.next_write-next_write.ensures ∙ ap (λ j. next_write_of (store_of j)) (sym c.count.ensures.store);
        noted = ap truncations_in now ∙ noted ∙ ap (λ (l : List Truncation). l ++ t ∷ []) (sym (ap truncations_in there));
      });
    }

pub returns-then-not-is_failed-clause-size : goal.returns-then-not-is_failed-clause-size
returns-then-not-is_failed-clause-size g c =
    let has = c.in_ok-size.ensures in
    let drawn = c.draw_truncation.ensures.drawn.files in
    record {
      inode = has.inode;
      was = has.was;
      is = record {
        opened = ap (λ (m : BTreeMap ℕ ℕ). get nat_cmp m (descriptor_number c.args.file)) drawn.opens ∙ has.is.opened;
        there = ap (λ (m : BTreeMap ℕ File). get nat_cmp m has.inode) drawn.files ∙ has.is.there;
      };
      size = has.size ∙ sym c.if-length-size.true;
    }

pub returns-clause-size : goal.returns-clause-size
returns-clause-size g c =
    let one = c.draw_truncation.new.self in
    let was = c.as_mut-found.result.now in
    let there = ap Some c.as_mut-found.ensures.value ∙ c.in-Some.ensures.value in
    let new : File = c.end_truncate-now.new.self in
    let inode = c.in_ok-inode.inode in
    let reached = c.in_ok-reached.reached in
    let drawn = c.draw_truncation.ensures.drawn.files in
    let small : inode < 2 ^ 64 = omega arith in
    let sets = sets_through one.files (c.get_mut.follows.lender new) inode was new there (c.get_mut.follows.holds new) in
    let still : KeepsOpen one.store c.set_config.new.self = still_twice one.store c.record_truncation.new.self c.set_config.new.self c.record_truncation.ensures.names.still c.set_config.ensures.contents.still in
    let sized : size_of c.cut_page.new.blob.blob ≡ reached =
    resized_size one.store c.set_config.new.self one.files inode reached was c.cut_page.new.blob small (sym there) still
    (subst (λ (b : FileBlob). ResizesOpen reached c.set_config.new.self b c.cut_page.new.blob) c.reserve_shown.ensures.content.blob c.in_ok-cut_page.ensures.sized) one.opened in
    record {
      inode = inode;
      was = new;
      is = record {
        opened = ap (λ (m : BTreeMap ℕ ℕ). get nat_cmp m (descriptor_number c.args.file)) (c.count.ensures.files.opens ∙ drawn.opens) ∙ c.in_ok-inode.ensures;
        there = ap (λ (m : BTreeMap ℕ File). get nat_cmp m inode) c.count.ensures.files.files ∙ sets inode ∙ cond-true (is_eq (nat_cmp inode inode)) (Some new) (get nat_cmp one.files inode) (key_self inode);
      };
      size = c.end_truncate-now.ensures.content.size sized ∙ c.in_ok-reached.ensures.whole c.if-is_failed.false;
    }

pub returns-in_err-cut_page-clause-told : goal.returns-in_err-cut_page-clause-told
returns-in_err-cut_page-clause-told g c =
    let inode = c.in_ok-inode.inode in
    let opens = ap (λ (m : BTreeMap ℕ ℕ). get nat_cmp m (descriptor_number c.args.file)) (sym c.begin_call.ensures.files.opens) ∙ c.in_ok-inode.ensures in
    let recorded = c.in_ok-edit.ensures.tells.told ∙ ap (λ (l : List Found). l ++ Some (resizes inode, false) ∷ []) (c.draw_truncation.ensures.drawn.told ∙ c.begin_call.ensures.keeps.told) in
    inr (inode, opens, c.cut_page.ensures.keeps.told ∙ c.set_config.ensures.contents.journal.told ∙ recorded)

pub returns-then-is_failed-clause-told : goal.returns-then-is_failed-clause-told
returns-then-is_failed-clause-told g c =
    let inode = c.in_ok-inode.inode in
    let opens = ap (λ (m : BTreeMap ℕ ℕ). get nat_cmp m (descriptor_number c.args.file)) (sym c.begin_call.ensures.files.opens) ∙ c.in_ok-inode.ensures in
    let recorded = c.in_ok-edit.ensures.tells.told ∙ ap (λ (l : List Found). l ++ Some (resizes inode, false) ∷ []) (c.draw_truncation.ensures.drawn.told ∙ c.begin_call.ensures.keeps.told) in
    inr (inode, opens, c.count.ensures.keeps.told ∙ c.cut_page.ensures.keeps.told ∙ c.set_config.ensures.contents.journal.told ∙ recorded)

pub returns-clause-told : goal.returns-clause-told
returns-clause-told g c =
    let inode = c.in_ok-inode.inode in
    let opens = ap (λ (m : BTreeMap ℕ ℕ). get nat_cmp m (descriptor_number c.args.file)) (sym c.begin_call.ensures.files.opens) ∙ c.in_ok-inode.ensures in
    let recorded = c.in_ok-edit.ensures.tells.told ∙ ap (λ (l : List Found). l ++ Some (resizes inode, false) ∷ []) (c.draw_truncation.ensures.drawn.told ∙ c.begin_call.ensures.keeps.told) in
    inr (inode, opens, c.count.ensures.keeps.told ∙ c.cut_page.ensures.keeps.told ∙ c.set_config.ensures.contents.journal.told ∙ recorded)

pub returns-in_err-zeros-clause-fixed : goal.returns-in_err-zeros-clause-fixed
returns-in_err-zeros-clause-fixed g c = λ inode at byte below spared f. c.draw_truncation.ensures.drawn.fixed inode at byte below (c.begin_call.ensures.keeps.fixed inode at byte below f)
