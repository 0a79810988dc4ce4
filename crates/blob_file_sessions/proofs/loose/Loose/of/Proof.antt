-- `of` takes the box apart.
use Rattle.std.proofs.Common.{◌≡◌, List, [], ◌∷◌, ◌++◌, refl, sym, ap, ◌∙◌, subst}
use mir.Raw.{raw as bare}
use mir.Val.{Val, vptr, vstruct, of_list}
use mir.Syntax.{impl, tnil, dnil, Dict}
use base.Logic.{SProp, ent, emp, never, id⊢, fst∗}
use base.Fml.{Lft, ftrue, fsep, flft}
use base.Fraction.{full_share}
use prog.Wp.{WpFn}
use types.Logic.{sem}
use types.Kit.{‵, raw, ◌⊛◌, some, later, ◌$◌, ◌∵◌, !, qed, by, move, keep, drop, split, split3, join, fsplit, fjoin, fpick, pick, suffices, use0, use1, await, rewrite, feq_l}
use types.Run.{stop, fld, of_opd, no_more, and_then, returns, enter}
use types.ByLocal.{alloc_all, pass_all, free_all, look_at, get, get_in, sets, lands_as}
use types.Part.{agg, sub, whole}
use types.Tokens.{lft_new}
use contract.BorrowLft.{◌⊑◌, ⊑_static}
use contract.Monad.{fact, fact_i}
use contract.Running.{tables, tables_of}
use denote.Exit.{yes}
use denote.RattleType.{RattleType, owns}
use denote.Signature.{plain}
use denote.Builtin.{RawPtr}
use denote.RawPtr.{Ptr, block_ptr, null_ptr, ptr_val, in_a_block}
use denote.Steps.{nothing, only, heard}
use denote.Param.{layout, param}
use denote.Param.NoDrop.{glues}
use denote.Param.Glue as glue
use denote.Param.{layouts}
use denote.Triple.Carry.{AllWithin}
use denote.Triple.Clauses.{Lasts, lasts, at_exit}
use denote.Triple.Walked.{Fit}
use borrow.Fn.Glue.{glue_by, glue_ps}
use borrow.Fn.Impl.{via_longer, method_Known}
use borrow.Fn.Kinds.{ended_of, stays, r_unit}
use borrow.Fn.Run.{Over}
use borrow.Fn.World.{World}
use mir.Syntax.{method}
use Rattle.blob_file_sessions.proofs.kept.KeptFiles.drop.Kinds as kinds
use Rattle.blob_file_sessions.proofs.kept.KeptFiles.drop.Met as drop_met
use Rattle.blob_file_sessions.proofs.kept.KeptFiles.drop.Reads as reads
use Rattle.blob_file_sessions.proofs.kept.KeptFiles.drop.Symbol as drop_symbol
use denote.Struct.Tuple.{Tuple}
use denote.Triple.Spec.{triple_of}
use denote.Triple.Call.{calls_at}
use denote.Triple.Walked.{Stays, stay_dropped, walk_of, Goes-dropped}
use Rattle.core.proofs.alloc.Calls.{handle_tells}
use Rattle.core.proofs.atomic.Steps.{fm}
use Rattle.std.specs.Prelude.{Some}
use Rattle.std.specs.Box.Ownership.{box_owns}
use Rattle.std.specs.contracts.alloc.Global as heap
use Rattle.std.specs.contracts.impls.GlobalAllocator.TheImpl.{ghosts, dict}
use Rattle.std.proofs.impls.GlobalAllocator.TheImpl.Met.{passed}
use Rattle.std_alloc.proofs.BoxSteps.Form as box
use Rattle.std_alloc.proofs.BoxSteps.Steps.{box_out, box_in}
use Rattle.std.proofs.raw_atomic.Walks.{proved_at, leaves}
use Rattle.std_alloc.specs.contracts.boxed.Box as box_row
use Rattle.std_alloc.specs.contracts.boxed.Box.into_raw_with_allocator as callee
use Rattle.std_alloc.proofs.boxed.Box.into_raw_with_allocator.Met.{met}
use Rattle.blob_file_sessions.specs.contracts.kept.KeptFiles as kept
use Rattle.blob_file_sessions.proofs.Values.{E, Heap, Heap_laws, Inner, Inner_laws, both, good, loose_in, no_drop}
use Rattle.blob_file_sessions.specs.contracts.loose.Loose.of.{ended, clauses}
use Rattle.blob_file_sessions.specs.contracts.loose.Loose.of.Key.{name as #self}
use Rattle.blob_file_sessions.proofs.loose.Loose.of.Statement.{statement}
use Rattle.blob_file_sessions.proofs.loose.Loose.of.Code as code
use Rattle.blob_file_sessions.proofs.Destruct++none.drop.Code as none_code

abbrev drops : Dict
drops = impl ("blob_file_sessions::kept::KeptFiles::drop" ∷ []) tnil dnil

pub of_spec : {M : Type 1} → statement M
unfolding tables_of none_code.code
of_spec {M} 𝓤 𝓛 𝓜 𝓡 wired =
    let H = 𝓛.H in let 𝓣 = tables 𝓤 H 𝓜 𝓡 𝓡.env in let R : RattleType = Inner in let Z : RattleType = Heap in let LZ = Heap_laws in let c = clauses 𝓛 𝓜.mem 𝓡.returns in
    let B : RattleType = box_row.the_row kept.the_row heap.the_row ghosts in let hs : Stays ended.signature.params ended.kept = (stay_dropped (plain (λ _. B)) yes, tt) in let fn = code.function in
    let world : World = record { M = M; 𝓤 = 𝓤; 𝓛 = 𝓛; 𝓜 = 𝓜; 𝓡 = 𝓡 } in let T = ended_of 0 kinds.ps kinds.r in let at = method drops 0 (layouts [] tt) in
    let freed : glue.Met 𝓛 𝓜 𝓡 𝓡.env R drops = glue_by R Inner_laws world drops 𝓡.env (λ κs a. Lasts T tt a) (λ κs a. lasts T tt a) (λ κs a x ls. Fit T (stays kinds.ps) tt a ls × reads.Learnt tt a x (at_exit T tt a ls))
    (λ κs a. AllWithin 1 (κs.0, tt) (R.lives, tt) × Unit {0}) 0 tt (λ κs a h. ((h, tt), tt))
    (via_longer 𝓛 (Over 𝓛 𝓜 𝓡 𝓡.env) 1 (glue_ps R Inner_laws) r_unit (λ κs a. Lasts T tt a) (λ κs a. lasts T tt a) (λ κs a x ls. Fit T (stays kinds.ps) tt a ls × reads.Learnt tt a x (at_exit T tt a ls))
    (λ κs a. AllWithin 1 (κs.0, tt) (R.lives, tt) × Unit {0}) at 0 tt (λ κs. tt) (λ κs a. reads.Asked tt a) (λ κs a p. (tt, tt))
    (λ κs bd in_it a vss qs. method_Known 0 kinds.ps kinds.r reads.requires reads.ensures reads.Asked reads.Learnt reads.known world drop_symbol.name at
    (drop_symbol.as_method 𝓡.env (code.calls-blob_file_sessions::kept::KeptFiles::drop 𝓡.env wired) at refl) (drop_met.met 𝓤 𝓛 𝓜 𝓡 (code.calls-blob_file_sessions::kept::KeptFiles::drop 𝓡.env wired)) ((tt, qs, tt, a, vss), tt))) in
    proved_at 𝓛 ended hs c 𝓜 𝓡 (Goes-dropped 𝓛 0 (plain (λ _. B)) yes (λ κs x f. refl), tt) #self fn (code.unfolded 𝓤 H 𝓜 𝓡 wired) (λ z are.
    let v = z.0.3.0 in let a = v.alloc in let Post : Val → SProp 𝓤 = (walk_of 𝓛 ended hs c).post z in let Run : List Val → SProp 𝓤 = λ ws. WpFn 𝓤 H 𝓣.C 𝓣.Λ fn ws Post in
    qed 𝓛 ((‵ ftrue ⊛ ‵ (owns (B ∷ []) z.0.3 z.0.4)) ∷ raw ((c tt z.0.3).requires z.1) ∷ []) ∵ split ! $ move ! (1 ∷ []) $ fsplit ! $ box_out E ! v z.0.4.0 (λ b o h e ws fits. box_in E ! v b o v.value e refl $
    let w : Val = box.word E h b o in let typed = good b o h fits in let k = triple_of 𝓛 (callee.signature R Z ghosts dict no_drop drops) (callee.spec R Z ghosts dict no_drop drops 𝓛 𝓜.mem 𝓡.returns) in
    suffices ! (Run (w ∷ [])) (subst (λ (us : List Val). ent 𝓤 (Run (w ∷ [])) (Run us)) (sym (λ i. ws i ++ [])) (id⊢ 𝓤 (Run (w ∷ [])))) $
    fjoin ! $ move ! (2 ∷ 0 ∷ []) $ enter ! 𝓣.C 𝓣.Λ fn (w ∷ []) Post $ alloc_all ! (λ l. pass_all ! refl (typed, tt) $ sets ! (of_opd ! (get ! refl)) refl typed $
    lft_new ! tt (λ α. lft_new ! tt (λ β. let κ : Lft = α ∷ [] in let μ : Lft = β ∷ [] in
    let toks = ‵ (flft κ full_share) ⊛ ‵ (flft μ full_share) ⊛ ‵ ftrue in
    let y : k.Ghost = (((κ, (μ, tt)), (full_share, (full_share, tt)), tt, (v, tt), (w ∷ [], tt)), tt) in let Pair = Tuple (RawPtr ∷ param 1 Z ∷ []) in
    nothing ! $ move ! (1 ∷ 0 ∷ []) $ join ! $ move ! (1 ∷ 0 ∷ []) $ join ! $ move ! (1 ∷ []) $
    use0 𝓛 (raw (fact 𝓤 (μ ⊑ Z.lives))) (fact_i 𝓤 (μ ⊑ Z.lives) (emp 𝓤) (⊑_static μ)) $ join ! $
    use0 𝓛 (raw (fact 𝓤 (κ ⊑ R.lives))) (fact_i 𝓤 (κ ⊑ R.lives) (emp 𝓤) (⊑_static κ)) $ join ! $
    move ! (1 ∷ 2 ∷ 0 ∷ []) $ join ! $ join ! $ use1 𝓛 (raw (k.pre y)) (id⊢ 𝓤 _) $
    calls_at ! (fm 𝓛 𝓜 𝓡) k (met 𝓤 𝓛 𝓜 𝓡 (code.calls-std_alloc::boxed::Box::into_raw_with_allocator 𝓡.env wired) R Z Inner_laws LZ ghosts dict no_drop drops
    (passed 𝓡.env (code.calls-std_heap::GlobalAllocator::allocate 𝓡.env wired) (code.calls-std_heap::GlobalAllocator::deallocate 𝓡.env wired) (code.calls-std_heap::GlobalAllocator::grow 𝓡.env wired)
    (code.calls-std_heap::GlobalAllocator::shrink 𝓡.env wired) M 𝓤 𝓛 𝓜 𝓡)
    (glues "blob_file_sessions::Destruct++none::drop" 𝓡.env (code.calls-blob_file_sessions::Destruct++none::drop 𝓡.env wired) Z LZ M 𝓤 𝓛 𝓜 𝓡) freed) y (and_then ! (get ! refl) (no_more !)) (λ u.
    use1 𝓛 (later (some (λ (r : Ptr × Z.Denot). (toks ⊛ ‵ (Pair.own_val r (u ∷ []))) ⊛ some (λ (_ : (Unit {0} × (Unit {0} × Unit {0})) × Unit {0}). ‵ (fsep (fsep ftrue (fsep ftrue ftrue)) ftrue) ⊛ (raw (fact 𝓤 (r.1 ≡ a)) ⊛ ‵ (box_owns (ghosts.dealloc_token a) R r.0 v.value)))))) (id⊢ 𝓤 _) $
    await ! tt $ pick ! (λ r. split ! $ split ! $ drop ! $ move ! (1 ∷ []) $ pick ! (λ _. split3 ! $ drop ! $ heard ! (r.1 ≡ a) (λ ea.
    in_a_block ! r.0 (λ p. box_owns (ghosts.dealloc_token a) R p v.value) (fst∗ 𝓤 (never 𝓤) (sem 𝓛 (ghosts.dealloc_token a (bare (layout R)) null_ptr))) (λ b' o' e'.
    move ! (1 ∷ []) $ fpick ! (λ vss. fsplit ! $ feq_l ! (λ eu. fsplit ! $ feq_l ! (λ ep. fsplit ! $ rewrite ! 0 (λ (s : Z.Denot). ‵ (Z.own_val s vss.1.0)) ea refl $ handle_tells E.al ! a vss.1.0 (λ h' eh fits'.
    let made = good b' o' h' fits' in
    lands_as ! (ap only (eu ∙ (λ j. vstruct (of_list ((ep ∙ ap (λ (p : Ptr). ptr_val p ∷ []) e') j ++ (eh j ++ []))) ∷ []))) refl made $
    sets ! (of_opd ! (get_in ! (fld ! refl (stop !)) (sub ! 0 refl (whole !)))) refl (tt, tt) $ sets ! (of_opd ! (get_in ! (fld ! refl (stop !)) (sub ! 1 refl (whole !)))) refl fits' $ sets ! (of_opd ! (get ! refl)) refl (tt, tt) $
    sets ! (agg ! (and_then ! (get ! refl) (and_then ! (get ! refl) (no_more !)))) refl made $ move ! (2 ∷ 0 ∷ []) $ loose_in ! b' o' h' a v.value $
    use0 𝓛 (raw (fact 𝓤 (Some v.value ≡ Some v.value))) (fact_i 𝓤 (Some v.value ≡ Some v.value) (emp 𝓤) refl) $ nothing ! $ nothing ! $ fjoin ! $ nothing ! $
    returns ! (look_at ! 0 refl) $ free_all ! refl $ keep ! (0 ∷ 1 ∷ 3 ∷ 2 ∷ []) $ by ! (leaves 𝓛 ended hs c z (both (vptr b' o') h') (record { at = block_ptr b' o'; alloc = a; value = Some v.value }) (tt, tt) (tt, tt))))))))))))))))
