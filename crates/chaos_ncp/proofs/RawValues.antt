-- The machine values of a `Raw`. Assumes `Logic`.
use Rattle.std.proofs.Common.{◌≡◌, List, [], ◌∷◌, ◌++◌, refl, subst, sym}
use mathlib.Core.Bool.{true, ◌&&◌}
use lib.Dec.{T, lit<}
use mir.Syntax.{ty_ptr}
use seplogic.Ra.Ura.{Ura}
use mir.Val.{Val, vstruct, of_list, has_ty, WT}
use base.Fml.{Fml}
use types.Logic.{Logic}
use types.Kit.{Item, Goal, Seq, Step, step, ‵, ◌$◌, move, drop, fsplit, fjoin, fpick, fpack, feq_i, feq_l}
use denote.RattleType.{RattleType, Valss}
use denote.Builtin.{RawPtr}
use denote.RawPtr.{Ptr, block_ptr, null_ptr, ptr_val}
use denote.Steps.{nothing}
use denote.Param.{layout}
use denote.Struct.Struct.{within}
use denote.Struct.Owning.{shape}
use Rattle.std.proofs.alloc.Calls.{handle_tells}
use Rattle.std.proofs.cell.Inside.{Good}
use Rattle.std.specs.declared.option.Option.{Option}
use Rattle.std.specs.declared.option.Option.TheVariants.{None, Some}
use Rattle.std.specs.Prelude.{is_some}
use Rattle.std.specs.contracts.alloc.Global as heap
use Rattle.std.proofs.alloc.Global.TheLaws as heap_laws
use Rattle.std.specs.contracts.impls.GlobalAllocator.TheImpl.{ghosts}
use Rattle.chaos_ncp.specs.Raw.{raw_owns}
use Rattle.chaos_ncp.specs.contracts.node.Node as node
use Rattle.chaos_ncp.specs.contracts.raw.Raw as raw_type
use Rattle.chaos_ncp.proofs.Values.{both, al, both_tt}

-- a pointer has its type's layout
pub Ptr-Good : (p : Ptr) → T (has_ty ty_ptr (ptr_val p)) × WT (ptr_val p)
Ptr-Good (block_ptr b o) = (tt, tt)
Ptr-Good null_ptr = (tt, record { fits = lit< tt })

-- where there is a value, it is one
pub value_in : {A : Type 0} (o : Option A) → is_some o ≡ true → (x : A) × (o ≡ Some x)
value_in None e = absurd (subst T (sym e) tt)
value_in (Some x) e = (x, refl)

abbrev pub Z : RattleType
Z = heap.the_row

abbrev pub owned : Z.Denot → Ptr → Option (node.the_row).Denot → Fml
owned a p n = raw_owns (ghosts.dealloc_token a) node.the_row p n

pub raw_good : (p : Ptr) (h : Val) → Good (layout Z) h → T (has_ty ty_ptr (ptr_val p) && (has_ty (layout Z) h && true)) × WT (both (ptr_val p) h)
raw_good p h fits = let at = Ptr-Good p in (both_tt (has_ty ty_ptr (ptr_val p)) (has_ty (layout Z) h) at.0 fits.0, (at.1, (fits.1, tt)))

module _ {M : Type 1} {𝓤 : Ura M} {𝓛 : Logic 𝓤} {K : Type 0} {Γ : List (Item 𝓤)} {G : Goal 𝓤 𝓛.H} where
  pub raw_out : K → (d : (raw_type.the_row).Denot) (vs : List Val)
      → ((h : Val) → vs ≡ both (ptr_val d.at) h ∷ [] → Good (layout Z) h → Seq K 𝓛 (‵ (owned d.alloc d.at d.node) ∷ ‵ (Z.own_val d.alloc (h ∷ [])) ∷ Γ) G)
      → Seq K 𝓛 (‵ ((raw_type.the_row).own_val d vs) ∷ Γ) G
  raw_out t d vs k =
      fsplit t $ fpick t (λ vss. fsplit t $ feq_l t (λ ev. fsplit t $ feq_l t (λ ep. fsplit t $ handle_tells (al node.the_row Z heap_laws.the_row_laws ghosts) t d.alloc vss.1.0 (λ h ea fits. move t (1 ∷ []) $ drop t $ move t (1 ∷ []) $
      k h (subst (λ (ws : List Val). vs ≡ vstruct (of_list (ptr_val d.at ∷ (ws ++ []))) ∷ []) ea (subst (λ (ps : List Val). vs ≡ vstruct (of_list (ps ++ (vss.1.0 ++ []))) ∷ []) ep ev)) fits))))

  pub raw_in : K → (p : Ptr) (h : Val) (a : Z.Denot) (n : Option (node.the_row).Denot)
      → Step K 𝓛 (‵ ((raw_type.the_row).own_val (record { at = p; alloc = a; node = n }) (both (ptr_val p) h ∷ [])) ∷ Γ) G (‵ (owned a p n) ∷ ‵ (Z.own_val a (h ∷ [])) ∷ Γ) G
  raw_in t p h a n = step (λ s. let v : Val = both (ptr_val p) h in
      nothing t $ move t (2 ∷ 0 ∷ []) $ fjoin t $ feq_i t (List Val) (ptr_val p ∷ []) (ptr_val p ∷ []) refl $ fjoin t $ feq_i t (List Val) (v ∷ []) (v ∷ []) refl $ fjoin t $
      fpack t (Valss (RawPtr ∷ Z ∷ [])) (within (shape raw_type.the_type) (p, (((tt, tt), tt), tt)) (v ∷ [])) (ptr_val p ∷ [], (h ∷ [], tt)) $ fjoin t $ s)
