-- Two configurations of a wrapper are equal exactly if all their rates are.
use Rattle.std.specs.Prelude.{Bool, true, ◌&&◌, Option, Some, None}
use Rattle.std.specs.Option.{option_eq}
use Rattle.std.proofs.Common.{◌≡◌, refl, sym, ap, subst}
use Rattle.std.proofs.lemmas.Bool.{false≢true, and_from}
use Rattle.std.proofs.lemmas.Option.{none-some, same_Some}
use Rattle.blob_header.specs.Values.{IsSameness}
use Rattle.blob_model.specs.Rates.{Rate}
use Rattle.blob_model.specs.SamePlace.{parts}
use Rattle.blob_draws.specs.declared.config.Config.{Config}
use Rattle.blob_draws.specs.declared.config.ResizeConfig.{ResizeConfig}
use Rattle.blob_draws.specs.declared.config.WriteConfig.{WriteConfig}

-- what may not be set is equal where both aren't, or both are and are equal
options_same : {X : Type 0} (eq : X → X → Bool) → IsSameness eq → IsSameness (option_eq eq)
options_same eq same None None = (λ _. refl, λ _. refl)
options_same eq same None (Some y) = (λ e. absurd (false≢true e), λ e. absurd (none-some y e))
options_same eq same (Some x) None = (λ e. absurd (false≢true e), λ e. absurd (none-some x (sym e)))
options_same eq same (Some x) (Some y) = (λ e. ap Some ((same x y).0 e), λ e. (same x y).1 (same_Some x y e))

module _ (rate : Rate → Rate → Bool) (rates : IsSameness rate) (write : WriteConfig → WriteConfig → Bool) (writes : IsSameness write) (resize : ResizeConfig → ResizeConfig → Bool) (resizes : IsSameness resize) where
  -- rate by rate
  abbrev pub equal : Config → Config → Bool
  equal a b = option_eq rate a.open_rate b.open_rate && (option_eq rate a.read_rate b.read_rate && (option_eq write a.write_rate b.write_rate && (option_eq rate a.sync_rate b.sync_rate && (option_eq resize a.resize_rate b.resize_rate && (option_eq rate a.remove_rate b.remove_rate && option_eq rate a.scan_rate b.scan_rate)))))

  all_same : (a b : Config) → equal a b ≡ true → a ≡ b
  all_same a b e =
      let p = parts (option_eq rate a.open_rate b.open_rate) _ e in
      let q = parts (option_eq rate a.read_rate b.read_rate) _ p.1 in
      let r = parts (option_eq write a.write_rate b.write_rate) _ q.1 in
      let s = parts (option_eq rate a.sync_rate b.sync_rate) _ r.1 in
      let t = parts (option_eq resize a.resize_rate b.resize_rate) _ s.1 in
      let u = parts (option_eq rate a.remove_rate b.remove_rate) (option_eq rate a.scan_rate b.scan_rate) t.1 in
      λ i. record {
        open_rate = (options_same rate rates a.open_rate b.open_rate).0 p.0 i;
        read_rate = (options_same rate rates a.read_rate b.read_rate).0 q.0 i;
        write_rate = (options_same write writes a.write_rate b.write_rate).0 r.0 i;
        sync_rate = (options_same rate rates a.sync_rate b.sync_rate).0 s.0 i;
        resize_rate = (options_same resize resizes a.resize_rate b.resize_rate).0 t.0 i;
        remove_rate = (options_same rate rates a.remove_rate b.remove_rate).0 u.0 i;
        scan_rate = (options_same rate rates a.scan_rate b.scan_rate).0 u.1 i;
      }

  equal_self : (a : Config) → equal a a ≡ true
  equal_self a =
      let rated : (x : Option Rate) → option_eq rate x x ≡ true = λ x. (options_same rate rates x x).1 refl in
      and_from _ _ (rated a.open_rate) (and_from _ _ (rated a.read_rate) (and_from _ _ ((options_same write writes a.write_rate a.write_rate).1 refl)
      (and_from _ _ (rated a.sync_rate) (and_from _ _ ((options_same resize resizes a.resize_rate a.resize_rate).1 refl) (and_from _ _ (rated a.remove_rate) (rated a.scan_rate))))))

  pub configs_same : IsSameness equal
  configs_same a b = (all_same a b, λ e. subst (λ (x : Config). equal a x ≡ true) e (equal_self a))
