-- The items of a list in JSON, read one after another.
use Rattle.std.specs.Prelude.{◌≡◌, ◌∷◌, [], List}
use Rattle.serde_json.specs.Data.{Data, Items, no_items, item}

-- the items begin with those of these elements, where Is says which item is that of which element, and these items are left
abbrev pub BeginsWith : {X : Type 0} → (Data → X → Type 0) → Items → List X → Items → Type 0
BeginsWith Is items [] rest = items ≡ rest
BeginsWith Is no_items (x ∷ xs) rest = ⊥
BeginsWith Is (item d items) (x ∷ xs) rest = Is d x × BeginsWith Is items xs rest

-- the items are those of these elements, in order
abbrev pub AreAll : {X : Type 0} → (Data → X → Type 0) → Items → List X → Type 0
AreAll Is items xs = BeginsWith Is items xs no_items

-- the first item at fault: the items before it are those of some elements
pub record HasFault {X : Type 0} (Is : Data → X → Type 0) (Fault : Data → Type 0) (items : Items) : Type 0 where
  pub before : List X
  pub here : Data
  pub rest : Items
  pub begins : BeginsWith Is items before (item here rest)
  pub fault : Fault here
