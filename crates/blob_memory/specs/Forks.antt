-- The files of a fork.
use Rattle.std.specs.Prelude.{◌≡◌, Option, None}
use Rattle.std.specs.Option.{MatchOption, IsSomeAnd}
use Rattle.blob_memory.specs.declared.item.Item.{Item}
use Rattle.blob_memory.specs.declared.item.Item.TheVariants.{Raw, Held}

-- the same bytes; for an incarnation also the same number, layout and version. Capacities may differ
abbrev pub IsCopy : Item → Item → Type 0
IsCopy (Raw old) (Raw new) = new.items ≡ old.items
IsCopy (Raw old) (Held new) = ⊥
IsCopy (Held old) (Raw new) = ⊥
IsCopy (Held old) (Held new) = (new.number ≡ old.number) × (new.layout ≡ old.layout) × (new.version ≡ old.version) × (new.bytes.items ≡ old.bytes.items)

-- a copy of the item, or None for None
abbrev pub IsCopyIn : Option Item → Option Item → Type 0
IsCopyIn old new = MatchOption old (new ≡ None) (λ item. IsSomeAnd new (IsCopy item))
