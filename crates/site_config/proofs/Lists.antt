-- The lists of a configuration, as the code's loops walk them.
use Rattle.std.proofs.Common.{◌≡◌, ◌+◌, ◌<◌, ◌==◌, ℕ, true, false, List, [], ◌∷◌, length, map, drop, get_or, Some, Ok, Err, refl, ap, ◌∙◌}
use Rattle.std.specs.Prelude.{Option}
use Rattle.std.specs.List.{position_from}
use Rattle.std.specs.Cmp.Lexicographic.{pointwise}
use Rattle.std.proofs.lemmas.List.{at_drop_more, length-map}
use Rattle.toml.specs.Data.{Data, as_array}
use Rattle.toml.specs.View.{view, items_view}
use Rattle.toml.specs.declared.value.Value.{Value}
use Rattle.site_config.specs.declared.fault.Part.{Part}
use Rattle.site_config.specs.declared.fault.KeyName.TheVariants.{Itself}
use Rattle.site_config.specs.declared.fault.ConfigFault.TheVariants as fault
use Rattle.site_config.specs.Fields.{is_in_limits, items_list, items_in}

items_list-view : (vs : List Value) → items_list (items_view vs) ≡ map view vs
items_list-view [] = refl
items_list-view (v ∷ vs) = ap (λ ds. view v ∷ ds) (items_list-view vs)

-- an array of so many items, and of too many or too few
pub items_in-within : (part : Part) (low high : ℕ) (d : Data) (vs : List Value) → as_array d ≡ Some (items_view vs) →
    is_in_limits low high (length vs) ≡ true → items_in part low high d ≡ Ok (map view vs)
unfolding items_in
items_in-within part low high d vs e fits = rw (e, items_list-view vs, length-map vs view, fits) refl

pub items_in-outside : (part : Part) (low high : ℕ) (d : Data) (vs : List Value) → as_array d ≡ Some (items_view vs) →
    is_in_limits low high (length vs) ≡ false →
    items_in part low high d ≡ Err (fault.Limit (record { part = part; index = 0; name = Itself }))
unfolding items_in
items_in-outside part low high d vs e over = rw (e, items_list-view vs, length-map vs view, over) refl

-- the place of a name, where the first of the names has place i
abbrev pub place_from : ℕ → List ℕ → List (List ℕ) → Option ℕ
place_from i name names = position_from (λ other. pointwise ◌==◌ other name) i names

-- a name is at place i, or further on, or nowhere
pub place_from-here : {X : Type 0} (f : X → List ℕ) (name : List ℕ) (xs : List X) (i : ℕ) (d : X) → i < length xs →
    pointwise ◌==◌ (f (get_or xs i d)) name ≡ true → place_from i name (map f (drop i xs)) ≡ Some i
place_from-here f name xs i d within same = at_drop_more (λ ys. place_from i name (map f ys)) xs i d within ∙ rw same refl

pub place_from-next : {X : Type 0} (f : X → List ℕ) (name : List ℕ) (xs : List X) (i : ℕ) (d : X) → i < length xs →
    pointwise ◌==◌ (f (get_or xs i d)) name ≡ false →
    place_from i name (map f (drop i xs)) ≡ place_from (i + 1) name (map f (drop (i + 1) xs))
place_from-next f name xs i d within other = at_drop_more (λ ys. place_from i name (map f ys)) xs i d within ∙ rw other refl
