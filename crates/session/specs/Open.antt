-- What a session does with a case that was taken. Assumes nothing.
use Rattle.std.specs.Prelude.{◌≡◌, ℕ, ◌-◌, ◌<◌, ◌≤◌, List, ◌++◌, length, replicate, ℤ, Some, None, Ok, Err, vec_items, vec_len, Option, Result, Vec, slice_index}
use Rattle.std.specs.declared.alloc.Global.{Global}
use Rattle.std.specs.List.{AllByRecursion}
use Rattle.graph.specs.Graph.{Case}
use Rattle.graph.specs.Views.{Shows}
use Rattle.graph.specs.Faults.{Fault}
use Rattle.trains.specs.Named.{of_railway}
use Rattle.session.specs.declared.open.RailwayRefusal.{RailwayRefusal}
use Rattle.session.specs.declared.open.RailwayRefusal.TheVariants.{Railway, Memory}
use Rattle.session.specs.declared.open.CaseSize.{CaseSize}
use Rattle.session.specs.declared.open.ArmsFault.{ArmsFault}
use Rattle.session.specs.declared.open.ArmsFault.TheVariants.{TooMany, Arm}

-- the last event, the number of fixed arcs, the number of pairs
abbrev pub size_of : Case → CaseSize
size_of c = record { end = c.end; fixed = length c.fixed; pairs = length c.pairs }

-- what a choice of arms answers, and the table that it leaves: the arms given and then zeros; refused, the table as it was
abbrev pub ArmsChosen : {X : Type 0} → Case → List ℕ → List ℕ → List ℕ → Result X ArmsFault → Type 0
ArmsChosen c given before after (Ok x) = (length given ≤ length c.pairs) × AllByRecursion (λ a. a ≤ 2) given × (after ≡ given ++ replicate (60 - length given) 0)
ArmsChosen c given before after (Err (TooMany n)) = (n ≡ length c.pairs) × (length c.pairs < length given) × (after ≡ before)
ArmsChosen c given before after (Err (Arm k)) = (k < length given) × (2 < slice_index given k) × (after ≡ before)

-- why a railway is refused: its fault, or memory is short
abbrev pub RailwayRefused : Option Fault → RailwayRefusal → Type 0
RailwayRefused o (Railway f) = o ≡ Some (of_railway f)
RailwayRefused o Memory = Unit {0}

-- the times that are found: a value for each event, or none
abbrev pub TimesFound : {V : Type 0} → (V → ℤ) → Option (List ℕ) → Option (Vec V Global) → Type 0
TimesFound rank None None = Unit {0}
TimesFound rank None (Some v) = ⊥
TimesFound rank (Some ts) None = ⊥
TimesFound rank (Some ts) (Some v) = (vec_len v ≡ length ts) × Shows rank (vec_items v) ts
