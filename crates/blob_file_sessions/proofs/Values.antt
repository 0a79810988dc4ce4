-- The machine values of a `Loose`, and what the calls on boxes require of the type that it points to. Assumes `Logic`.
use Rattle.std.proofs.Common.{◌≡◌, ℕ, List, [], ◌∷◌, ◌++◌, refl, subst}
use mathlib.Core.Bool.{◌&&◌, true, false≢true}
use lib.Dec.{T}
use seplogic.Ra.Ura.{Ura}
use mir.Syntax.{impl, tnil, tcons, dnil, Dict}
use mir.Val.{Val, vptr, vstruct, vcons, vnil, of_list, has_ty, WT}
use types.Logic.{Logic, sem}
use base.Logic.{never, fst∗}
use types.Kit.{Item, Goal, Seq, Step, step, ‵, ◌$◌, move, drop, fsplit, fjoin, fpick, fpack, rewrite, feq_i, feq_l}
use denote.RattleType.{RattleType, Valss}
use denote.Builtin.{RawPtr}
use denote.RawPtr.{Ptr, block_ptr, null_ptr, ptr_val, in_a_block}
use denote.Memory.{lone}
use denote.Steps.{nothing}
use mir.Raw.{raw}
use denote.Exit.{no}
use denote.Param.{layout, arg}
use denote.Param.Laws.{Laws, arg_laws}
use denote.Struct.Struct.{within}
use denote.Struct.Owning.{shape, to}
use Rattle.core.proofs.alloc.Calls.{handle_tells}
use Rattle.core.proofs.atomic.Steps.{Ptr-Good}
use Rattle.core.proofs.cell.Inside.{Good}
use Rattle.std.specs.Prelude.{Option, Some, None, IsSome}
use Rattle.std.specs.Box.Ownership.{box_owns}
use Rattle.std.specs.contracts.alloc.Global as heap
use Rattle.std.proofs.alloc.Global.TheLaws as heap_laws
use Rattle.std.specs.declared.alloc.Global.{Global}
use Rattle.std.specs.contracts.impls.GlobalAllocator.TheImpl.{ghosts, dict}
use Rattle.std_alloc.proofs.BoxSteps.Form as box
use Rattle.std_alloc.proofs.ResultValues.{and_tt}
use Rattle.blob_sessions.specs.Owned.{slot_owns}
use Rattle.blob_file_sessions.specs.declared.kept.KeptFiles.{KeptFiles}
use Rattle.blob_file_sessions.specs.declared.loose.Loose.{Loose}
use Rattle.blob_file_sessions.specs.contracts.kept.KeptFiles as kept
use Rattle.blob_file_sessions.proofs.kept.KeptFiles.TheLaws as kept_laws
use Rattle.blob_file_sessions.specs.contracts.loose.Loose as loose

abbrev pub both : Val → Val → Val
both v w = vstruct (vcons v (vcons w vnil))

-- the allocator's row as an argument
abbrev pub Heap : RattleType
Heap = arg (raw (layout heap.the_row)) no heap.the_row

abbrev pub no_drop : Dict
no_drop = impl ("blob_file_sessions::Destruct++none::drop" ∷ []) (tcons (layout Heap) tnil) dnil

abbrev pub Heap_laws : Laws Heap
Heap_laws = arg_laws (raw (layout heap.the_row)) no heap.the_row heap_laws.the_row_laws refl

-- what is kept, as an argument
abbrev pub Inner : RattleType
Inner = arg (raw (layout kept.the_row)) no kept.the_row

abbrev pub Inner_laws : Laws Inner
Inner_laws = arg_laws (raw (layout kept.the_row)) no kept.the_row kept_laws.the_row_laws refl

abbrev pub E : box.Bx
E = record { row = Inner; laws = Inner_laws; al = record { row = Heap; laws = Heap_laws; g = ghosts; d = dict; drops = no_drop } }

pub good : (b o : ℕ) (h : Val) → Good (layout heap.the_row) h → T (has_ty (layout heap.the_row) h && true) × WT (both (vptr b o) h)
good b o h fits = (and_tt (has_ty (layout heap.the_row) h) fits.0, (tt, (fits.1, tt)))

module _ {M : Type 1} {𝓤 : Ura M} {𝓛 : Logic 𝓤} {K : Type 0} {Γ : List (Item 𝓤)} {G : Goal 𝓤 𝓛.H} where
  pub loose_in : K → (b o : ℕ) (h : Val) (a : Global) (x : KeptFiles)
      → Step K 𝓛 (‵ ((loose.the_row).own_val (record { at = block_ptr b o; alloc = a; value = Some x }) (both (vptr b o) h ∷ [])) ∷ Γ) G (‵ (box_owns (ghosts.dealloc_token a) kept.the_row (block_ptr b o) x) ∷ ‵ ((heap.the_row).own_val a (h ∷ [])) ∷ Γ) G
  loose_in t b o h a x = step (λ s. let v : Val = both (vptr b o) h in
      nothing t $ move t (2 ∷ 0 ∷ []) $ fjoin t $ feq_i t (List Val) (vptr b o ∷ []) (vptr b o ∷ []) refl $ fjoin t $ feq_i t (List Val) (v ∷ []) (v ∷ []) refl $ fjoin t $
      fpack t (Valss (RawPtr ∷ heap.the_row ∷ [])) (within (shape loose.the_type) (to loose.the_type (record { at = block_ptr b o; alloc = a; value = Some x })) (v ∷ [])) (vptr b o ∷ [], (h ∷ [], tt)) $ fjoin t $ s)

  pub none_in : K → (h : Val) (a : Global)
      → Step K 𝓛 (‵ ((loose.the_row).own_val (record { at = null_ptr; alloc = a; value = None }) (both (ptr_val null_ptr) h ∷ [])) ∷ Γ) G (‵ ((heap.the_row).own_val a (h ∷ [])) ∷ Γ) G
  none_in t h a = step (λ s. let v : Val = both (ptr_val null_ptr) h in
      nothing t $ nothing t $ move t (2 ∷ 0 ∷ []) $ fjoin t $ feq_i t (List Val) (ptr_val null_ptr ∷ []) (ptr_val null_ptr ∷ []) refl $ fjoin t $ feq_i t (List Val) (v ∷ []) (v ∷ []) refl $ fjoin t $
      fpack t (Valss (RawPtr ∷ heap.the_row ∷ [])) (within (shape loose.the_type) (to loose.the_type (record { at = null_ptr; alloc = a; value = None })) (v ∷ [])) (ptr_val null_ptr ∷ [], (h ∷ [], tt)) $ fjoin t $ s)

  pub loose_out : K → (d : Loose) (x : KeptFiles) → d.value ≡ Some x → (vs : List Val)
      → ((b o : ℕ) (h : Val) → d.at ≡ block_ptr b o → vs ≡ both (vptr b o) h ∷ [] → Good (layout Heap) h
      → Seq K 𝓛 (‵ (box_owns (ghosts.dealloc_token d.alloc) kept.the_row (block_ptr b o) x) ∷ ‵ (Heap.own_val d.alloc (h ∷ [])) ∷ Γ) G)
      → Seq K 𝓛 (‵ ((loose.the_row).own_val d vs) ∷ Γ) G
  loose_out t d x is vs k =
      fsplit t $ fpick t (λ vss. fsplit t $ feq_l t (λ ev. fsplit t $ feq_l t (λ ep. fsplit t $ handle_tells E.al t d.alloc vss.1.0 (λ h ea fits. move t (1 ∷ []) $ drop t $ move t (1 ∷ []) $
      rewrite t 0 (λ (y : Option KeptFiles). ‵ (slot_owns (ghosts.dealloc_token d.alloc) kept.the_row d.at y)) is refl $
      in_a_block t d.at (λ p. box_owns (ghosts.dealloc_token d.alloc) kept.the_row p x) (fst∗ 𝓤 (never 𝓤) (sem 𝓛 (ghosts.dealloc_token d.alloc (raw (lone kept.the_row.mir)) null_ptr))) (λ b o e. k b o h e
      (subst (λ (p : Ptr). vs ≡ vstruct (of_list (ptr_val p ∷ h ∷ [])) ∷ []) e
      (subst (λ (ws : List Val). vs ≡ vstruct (of_list (ptr_val d.at ∷ (ws ++ []))) ∷ []) ea (subst (λ (ps : List Val). vs ≡ vstruct (of_list (ps ++ (vss.1.0 ++ []))) ∷ []) ep ev))) fits)))))

pub none_good : (h : Val) → Good (layout Heap) h → T (has_ty (layout Heap) h && true) × WT (both (ptr_val null_ptr) h)
none_good h fits = (and_tt (has_ty (layout Heap) h) fits.0, ((Ptr-Good null_ptr).1, (fits.1, tt)))

pub some_of : (o : Option KeptFiles) → IsSome o → (x : KeptFiles) × (o ≡ Some x)
some_of None is = absurd (false≢true is)
some_of (Some x) is = (x, refl)
