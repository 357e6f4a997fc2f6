-- What is read meets the limits of a site.
--   both_ok, passes, untaken    what a step that came to a value says
--   gauges_named                the names of gauges that were read
--   details_named               the names of details that were read, which are on gauges
--   config_in-valid             the whole
use Rattle.std.proofs.Common.{◌≡◌, ◌≢◌, ◌+◌, ◌<◌, ◌≤◌, ◌⊎◌, inl, inr, ℕ, zero, suc, ℤ, pos, negsuc, Bool, if◌then◌else◌, true, false, List, [], ◌∷◌, ◌++◌, length, get_or, Option, Some, None, Result, Ok, Err, refl, sym, ap, subst, ◌∙◌, ◌==◌, arith}
use Rattle.std.specs.Prelude.{neg_ℤ, unsigned_abs, ok_or, codes, IfOk}
use Rattle.std.specs.Cmp.Lexicographic.{pointwise, other_text}
use Rattle.std.proofs.lemmas.Bool.{cases_lt}
use Rattle.std.proofs.lemmas.Bool.Decides.{nat_tests}
use Rattle.std.proofs.Math.ListN.{get_or-append}
use Rattle.std.proofs.Math.Seq.{get_or-append_seam}
use Rattle.std.proofs.lemmas.List.{length_push}
use Rattle.toml.specs.Data.{Data, Members, as_table, as_array, as_integer, get_member}
use Rattle.calibration.specs.declared.gain.TheConstants.{MAX_NUM, MAX_DEN, MAX_OFFSET}
use Rattle.site_config.specs.Keys.{gauge_key, detail_key, count_key, name_text}
use Rattle.site_config.specs.declared.fault.Part.TheVariants as parts
use Rattle.site_config.specs.declared.fault.KeyName.TheVariants as key
use Rattle.site_config.specs.declared.fault.ConfigFault.TheVariants.{Missing, Kind as WrongKind, NoSuchGauge}
use Rattle.calibration.specs.Gain.{GainValue}
use Rattle.site_config.specs.declared.config.Config.{Config}
use Rattle.site_config.specs.declared.config.Gauge.{Gauge}
use Rattle.site_config.specs.declared.config.NamedDetail.{NamedDetail}
use Rattle.site_config.specs.declared.fault.ConfigFault.{ConfigFault}
use Rattle.site_config.specs.declared.fault.Key.{Key}
use Rattle.site_config.specs.declared.fault.Part.{Part}
use Rattle.site_config.specs.declared.limits.TheConstants.{MAX_GAUGES, MAX_DETAILS, MAX_BLOCK, DEFAULT_BLOCK, MAX_WORKERS, DEFAULT_WORKERS}
use Rattle.site_config.specs.Fields.{Gives, ◌>>=◌, within_limits, is_in_limits, is_name, name_at, file_at, text_at, number_at, items_list, natural_or, number_or, number_if, number_in, is_within, place_of, unless_taken, unless_taken_before, items_in}
use Rattle.site_config.proofs.Lists.{place_from}
use Rattle.site_config.specs.Configuration.{Gauges, gauge_in, gauges_after, gauges_in, gauge_names, curve_in, detail_names, grid_in, detail_in, details_after, details_part, details_if, details_in, count_part, count_if, count_in, config_in}
use Rattle.site_config.specs.Valid.{IsConfig, no_gauge}

-- what came of two steps came of the second, from what came of the first
record Then {A B : Type 0} (r : Result A ConfigFault) (f : A → Result B ConfigFault) (y : B) : Type 0 where
  value : A
  first : r ≡ Ok value
  second : f value ≡ Ok y

both_ok : {A B : Type 0} (r : Result A ConfigFault) (f : A → Result B ConfigFault) (y : B) → (r >>= f) ≡ Ok y → Then r f y
both_ok (Ok x) f y e = record { value = x; first = refl; second = e }
both_ok (Err fault) f y e = absurd (cc)

same_ok : {A : Type 0} (x y : A) → ◌≡◌ {A = Result A ConfigFault} (Ok x) (Ok y) → x ≡ y
same_ok x y e = cc

passes : {X : Type 0} (b : Bool) (key : Key) (x y : X) → within_limits b key x ≡ Ok y → (b ≡ true) × (x ≡ y)
passes true key x y e = (refl, same_ok x y e)
passes false key x y e = absurd (cc)

untaken : (place : Option ℕ) (part : Part) (second : ℕ) (name y : List ℕ) → unless_taken place part second name ≡ Ok y →
    (place ≡ None) × (name ≡ y)
untaken None part second name y e = (refl, same_ok name y e)
untaken (Some first) part second name y e = absurd (cc)

placed_if : (b : Bool) (i : ℕ) (rest : Option ℕ) → (if b then Some i else rest) ≡ None → (b ≡ false) × (rest ≡ None)
placed_if true i rest e = absurd (cc)
placed_if false i rest e = (refl, e)

-- a name that has no place is none of those
no_place : (name : List ℕ) (names : List (List ℕ)) (i : ℕ) → place_from i name names ≡ None → (k : ℕ) → k < length names →
    get_or names k [] ≢ name
no_place name [] i e k lt = absurd (omega (arith, lt))
no_place name (other ∷ names) i e zero lt =
    other_text other name (sym (placed_if (pointwise ◌==◌ other name) i (place_from (i + 1) name names) e).0)
no_place name (other ∷ names) i e (suc k) lt =
    no_place name names (i + 1) (placed_if (pointwise ◌==◌ other name) i (place_from (i + 1) name names) e).1 k (omega (arith, lt))

-- names that can be told apart
record AreNamed (xs : List Gauge) : Type 0 where
  names : (g : ℕ) → g < length xs → is_name (get_or xs g no_gauge).name ≡ true
  differ : (g h : ℕ) → g < h → h < length xs → (get_or xs g no_gauge).name ≢ (get_or xs h no_gauge).name

none_named : AreNamed []
none_named = record { names = λ g lt. absurd (omega (arith, lt)); differ = λ g h less lt. absurd (omega (arith, lt)) }

name_in : (xs : List Gauge) (g : ℕ) → get_or (gauge_names xs) g [] ≡ (get_or xs g no_gauge).name
name_in [] g = refl
name_in (x ∷ xs) zero = refl
name_in (x ∷ xs) (suc g) = name_in xs g

many_names : (xs : List Gauge) → length (gauge_names xs) ≡ length xs
many_names [] = refl
many_names (x ∷ xs) = ap suc (many_names xs)

named_more : (xs : List Gauge) (y : Gauge) → AreNamed xs → is_name y.name ≡ true → place_of y.name (gauge_names xs) ≡ None →
    AreNamed (xs ++ y ∷ [])
named_more xs y are name new = record { names = names; differ = differ }
  where
    before : (g : ℕ) → g < length xs → get_or (xs ++ y ∷ []) g no_gauge ≡ get_or xs g no_gauge
    before g lt = get_or-append xs (y ∷ []) no_gauge g lt

    last : (g : ℕ) → length xs ≤ g → g < length (xs ++ y ∷ []) → get_or (xs ++ y ∷ []) g no_gauge ≡ y
    last g le lt =
        let e : g ≡ length xs = omega (arith, lt, le, length_push xs y) in
        subst (λ n. get_or (xs ++ y ∷ []) n no_gauge ≡ y) (sym e) (get_or-append_seam xs y [] no_gauge)

    names : (g : ℕ) → g < length (xs ++ y ∷ []) → is_name (get_or (xs ++ y ∷ []) g no_gauge).name ≡ true
    names g lt = by_case (cases_lt g (length xs))
      where
        by_case : (g < length xs) ⊎ (length xs ≤ g) → is_name (get_or (xs ++ y ∷ []) g no_gauge).name ≡ true
        by_case (inl less) = subst (λ x. is_name x.name ≡ true) (sym (before g less)) (are.names g less)
        by_case (inr le) = subst (λ x. is_name x.name ≡ true) (sym (last g le lt)) name

    differ : (g h : ℕ) → g < h → h < length (xs ++ y ∷ []) →
        (get_or (xs ++ y ∷ []) g no_gauge).name ≢ (get_or (xs ++ y ∷ []) h no_gauge).name
    differ g h less lt = by_case (cases_lt h (length xs))
      where
        under : g < length xs
        under = omega (arith, less, lt, length_push xs y)

        by_case : (h < length xs) ⊎ (length xs ≤ h) → (get_or (xs ++ y ∷ []) g no_gauge).name ≢ (get_or (xs ++ y ∷ []) h no_gauge).name
        by_case (inl in_front) = subst (λ x. (get_or (xs ++ y ∷ []) g no_gauge).name ≢ x.name) (sym (before h in_front))
            (subst (λ x. x.name ≢ (get_or xs h no_gauge).name) (sym (before g under)) (are.differ g h less in_front))
        by_case (inr le) = subst (λ x. (get_or (xs ++ y ∷ []) g no_gauge).name ≢ x.name) (sym (last h le lt))
            (subst (λ x. x.name ≢ y.name) (sym (before g under))
            (λ e. no_place y.name (gauge_names xs) 0 new g (omega (arith, under, many_names xs)) (name_in xs g ∙ e)))

-- one gauge more
record IsNewGauge (before : List Gauge) (x : Gauge) : Type 0 where
  name : is_name x.name ≡ true
  new : place_of x.name (gauge_names before) ≡ None

name_at-ok : (key : Key) (ms : Members) (y : List ℕ) → name_at key ms ≡ Ok y → is_name y ≡ true
unfolding name_at
name_at-ok key ms y e =
    let t = both_ok (text_at key ms) _ y e in
    let p = passes (is_name t.value) key t.value y t.second in
    subst (λ z. is_name z ≡ true) p.1 p.0

new_name : (part : Part) (second : ℕ) (names : List (List ℕ)) (name y : List ℕ) → unless_taken_before part second names name ≡ Ok y →
    (place_of name names ≡ None) × (name ≡ y)
unfolding unless_taken_before
new_name part second names name y e = untaken (place_of name names) part second name y e

gauge_read : (before : List Gauge) (value : Data) (x : Gauge × GainValue) → gauge_in before value ≡ Ok x → IsNewGauge before x.0
unfolding gauge_in
gauge_read before value x e =
    let i = length before in
    let part = both_ok (ok_or (as_table value) (WrongKind (gauge_key i key.Itself))) _ x e in
    let name = both_ok (name_at (gauge_key i key.Name) part.value) _ x part.second in
    let file = both_ok (file_at (gauge_key i key.File) part.value) _ x name.second in
    let num = both_ok (number_at (gauge_key i key.Num) (neg_ℤ (pos MAX_NUM)) (pos MAX_NUM) part.value) _ x file.second in
    let den = both_ok (natural_or 1 (gauge_key i key.Den) 1 MAX_DEN part.value) _ x num.second in
    let offset = both_ok (number_or (pos 0) (gauge_key i key.Offset) (neg_ℤ (pos MAX_OFFSET)) (pos MAX_OFFSET) part.value) _ x den.second in
    let again = both_ok (unless_taken_before parts.Gauge i (gauge_names before) name.value) _ x offset.second in
    let is = same_ok (record { name = again.value; file = file.value }, record { num = num.value; den = den.value; offset = offset.value })
    x again.second in
    let new = new_name parts.Gauge i (gauge_names before) name.value again.value again.first in
    let one = subst (λ n. is_name n ≡ true) new.1 (name_at-ok (gauge_key i key.Name) part.value name.value name.first) in
    let two = subst (λ n. place_of n (gauge_names before) ≡ None) new.1 new.0 in
    subst (λ (y : Gauge × GainValue). IsNewGauge before y.0) is (record { name = one; new = two })

record AreRead (before : Gauges) (more : ℕ) (g : Gauges) : Type 0 where
  named : AreNamed g.names
  gains : length g.gains ≡ length g.names
  many : length g.names ≡ length before.names + more

gauges_read : (before : Gauges) (values : List Data) (g : Gauges) → AreNamed before.names → length before.gains ≡ length before.names
    → gauges_after before values ≡ Ok g → AreRead before (length values) g
gauges_read before [] g named same e =
    subst (λ x. AreRead before 0 x) (same_ok before g e) (record { named = named; gains = same; many = omega arith })
gauges_read before (value ∷ values) g named same e =
    let first = both_ok (gauge_in before.names value) _ g e in
    let is = gauge_read before.names value first.value first.first in
    let more = named_more before.names first.value.0 named is.name is.new in
    let rest = gauges_read (record { names = before.names ++ first.value.0 ∷ []; gains = before.gains ++ first.value.1 ∷ [] }) values g more
    (length_push before.gains first.value.1 ∙ (ap (λ n. n + 1) same ∙ sym (length_push before.names first.value.0))) first.second in
    record { named = rest.named; gains = rest.gains; many = omega (arith, rest.many, length_push before.names first.value.0) }

items_within : (part : Part) (low high : ℕ) (value : Data) (ds : List Data) → items_in part low high value ≡ Ok ds →
    (low ≤ length ds) × (length ds ≤ high)
unfolding items_in
items_within part low high value ds e =
    let at : Key = record { part = part; index = 0; name = key.Itself } in
    let items = both_ok (ok_or (as_array value) (WrongKind at)) _ ds e in
    let p = passes (is_in_limits low high (length (items_list items.value))) at (items_list items.value) ds items.second in
    let within = subst (λ l. is_in_limits low high (length l) ≡ true) p.1 p.0 in
    (grind (arith, nat_tests, within), grind (arith, nat_tests, within))

record AreGauges (g : Gauges) : Type 0 where
  named : AreNamed g.names
  gains : length g.gains ≡ length g.names
  some : 1 ≤ length g.names
  few : length g.names ≤ MAX_GAUGES

gauges_named : (ms : Members) (g : Gauges) → gauges_in ms ≡ Ok g → AreGauges g
unfolding gauges_in
gauges_named ms g e =
    let value = both_ok (ok_or (get_member (codes "gauge") ms) (Missing (gauge_key 0 key.Itself))) _ g e in
    let values = both_ok (items_in parts.Gauge 1 MAX_GAUGES value.value) _ g value.second in
    let within = items_within parts.Gauge 1 MAX_GAUGES value.value values.value values.first in
    let are = gauges_read (record { names = []; gains = [] }) values.value g none_named refl values.second in
    record { named = are.named; gains = are.gains; some = omega (arith, within.0, are.many); few = omega (arith, within.1, are.many) }

-- the details
found_if : (b : Bool) (i place : ℕ) (rest : Option ℕ) → (if b then Some i else rest) ≡ Some place → (i ≡ place) ⊎ (rest ≡ Some place)
found_if true i place rest e = inl (cc)
found_if false i place rest e = inr e

place_below : (names : List (List ℕ)) (name : List ℕ) (i place : ℕ) → place_from i name names ≡ Some place → place < i + length names
place_below [] name i place e = absurd (cc)
place_below (other ∷ names) name i place e =
    by_case (found_if (pointwise ◌==◌ other name) i place (place_from (i + 1) name names) e) (λ is. place_below names name (i + 1) place is)
  where
    by_case : (i ≡ place) ⊎ (place_from (i + 1) name names ≡ Some place) →
        (place_from (i + 1) name names ≡ Some place → place < i + 1 + length names)
        → place < i + length (other ∷ names)
    by_case (inl same) next = omega (arith, same)
    by_case (inr is) next = omega (arith, next is)

placed : (o : Option ℕ) (fault : ConfigFault) (place : ℕ) → ok_or o fault ≡ Ok place → o ≡ Some place
placed None fault place e = absurd (cc)
placed (Some x) fault place e = ap Some (same_ok x place e)

-- one detail
record IsReadDetail (gauges : ℕ) (d : NamedDetail) : Type 0 where
  on : d.gauge < gauges
  name : is_name d.name ≡ true

detail_read : (gauges : List Gauge) (before : List NamedDetail) (value : Data) (d : NamedDetail) → detail_in gauges before value ≡ Ok d
    → IsReadDetail (length gauges) d
unfolding detail_in
detail_read gauges before value d e =
    let i = length before in
    let part = both_ok (ok_or (as_table value) (WrongKind (detail_key i key.Itself))) _ d e in
    let name = both_ok (name_at (detail_key i key.Name) part.value) _ d part.second in
    let gauge = both_ok (text_at (detail_key i key.Gauge) part.value) _ d name.second in
    let detail = both_ok (curve_in i part.value) _ d gauge.second in
    let place = both_ok (ok_or (place_of gauge.value (gauge_names gauges)) (NoSuchGauge i)) _ d detail.second in
    let again = both_ok (unless_taken_before parts.Detail i (detail_names before) name.value) _ d place.second in
    let is = same_ok (record { name = again.value; gauge = place.value; detail = detail.value }) d again.second in
    let at = placed (place_of gauge.value (gauge_names gauges)) (NoSuchGauge i) place.value place.first in
    let new = new_name parts.Detail i (detail_names before) name.value again.value again.first in
    let one = subst (λ n. is_name n ≡ true) new.1 (name_at-ok (detail_key i key.Name) part.value name.value name.first) in
    subst (λ (x : NamedDetail). IsReadDetail (length gauges) x) is
    (record { on = omega (arith, place_below (gauge_names gauges) gauge.value 0 place.value at, many_names gauges); name = one })

record AreOn (gauges : ℕ) (ds : List NamedDetail) : Type 0 where
  each : (d : ℕ) (any : NamedDetail) → d < length ds → IsReadDetail gauges (get_or ds d any)

none_on : (gauges : ℕ) → AreOn gauges []
none_on gauges = record { each = λ d any lt. absurd (omega (arith, lt)) }

on_more : (gauges : ℕ) (ds : List NamedDetail) (x : NamedDetail) → AreOn gauges ds → IsReadDetail gauges x → AreOn gauges (ds ++ x ∷ [])
on_more gauges ds x are is = record { each = each }
  where
    each : (d : ℕ) (any : NamedDetail) → d < length (ds ++ x ∷ []) → IsReadDetail gauges (get_or (ds ++ x ∷ []) d any)
    each d any lt = by_case (cases_lt d (length ds))
      where
        by_case : (d < length ds) ⊎ (length ds ≤ d) → IsReadDetail gauges (get_or (ds ++ x ∷ []) d any)
        by_case (inl less) = subst (λ (y : NamedDetail). IsReadDetail gauges y) (sym (get_or-append ds (x ∷ []) any d less))
            (are.each d any less)
        by_case (inr le) =
            let e : d ≡ length ds = omega (arith, lt, le, length_push ds x) in
            subst (λ n. IsReadDetail gauges (get_or (ds ++ x ∷ []) n any)) (sym e)
            (subst (λ (y : NamedDetail). IsReadDetail gauges y) (sym (get_or-append_seam ds x [] any)) is)

details_read : (gauges : List Gauge) (before : List NamedDetail) (values : List Data) (ds : List NamedDetail) → AreOn (length gauges) before
    → details_after gauges before values ≡ Ok ds → AreOn (length gauges) ds × (length ds ≡ length before + length values)
details_read gauges before [] ds are e =
    subst (λ x. AreOn (length gauges) x × (length x ≡ length before + 0)) (same_ok before ds e) (are, omega arith)
details_read gauges before (value ∷ values) ds are e =
    let first = both_ok (detail_in gauges before value) _ ds e in
    let more = on_more (length gauges) before first.value are (detail_read gauges before value first.value first.first) in
    let rest = details_read gauges (before ++ first.value ∷ []) values ds more first.second in
    (rest.0, omega (arith, rest.1, length_push before first.value))

record AreDetails (gauges : ℕ) (ds : List NamedDetail) : Type 0 where
  are_on : AreOn gauges ds
  few : length ds ≤ MAX_DETAILS

details_found : (gauges : List Gauge) (o : Option Data) (ds : List NamedDetail) → details_if gauges o ≡ Ok ds →
    AreDetails (length gauges) ds
unfolding details_part
details_found gauges None ds e =
    subst (λ x. AreDetails (length gauges) x) (same_ok [] ds e) (record { are_on = none_on (length gauges); few = omega arith })
details_found gauges (Some value) ds e =
    let values = both_ok (items_in parts.Detail 0 MAX_DETAILS value) _ ds e in
    let within = items_within parts.Detail 0 MAX_DETAILS value values.value values.first in
    let read = details_read gauges [] values.value ds (none_on (length gauges)) values.second in
    record { are_on = read.0; few = omega (arith, within.1, read.1) }

details_named : (gauges : List Gauge) (ms : Members) (ds : List NamedDetail) → details_in gauges ms ≡ Ok ds → AreDetails (length gauges) ds
unfolding details_in
details_named gauges ms ds e = details_found gauges (get_member (codes "detail") ms) ds e

-- how it is counted
is_within_limits : (low high : ℕ) (n : ℤ) → is_within (pos low) (pos high) n ≡ true → (low ≤ unsigned_abs n) × (unsigned_abs n ≤ high)
is_within_limits low high (pos n) e = (grind (arith, nat_tests, e), grind (arith, nat_tests, e))
is_within_limits low high (negsuc n) e = absurd (grind (arith, nat_tests, e))

number_within : (low high : ℕ) (k : Key) (value : Data) (n : ℤ) → number_in k (pos low) (pos high) value ≡ Ok n
    → (low ≤ unsigned_abs n) × (unsigned_abs n ≤ high)
unfolding number_in
number_within low high k value n e =
    let number = both_ok (ok_or (as_integer value) (WrongKind k)) _ n e in
    let p = passes (is_within (pos low) (pos high) number.value) k number.value n number.second in
    is_within_limits low high n (subst (λ m. is_within (pos low) (pos high) m ≡ true) p.1 p.0)

number_or_within : (default low high : ℕ) (k : Key) (o : Option Data) (n : ℤ) → low ≤ default → default ≤ high
    → number_if o (pos default) k (pos low) (pos high) ≡ Ok n → (low ≤ unsigned_abs n) × (unsigned_abs n ≤ high)
number_or_within default low high k None n a b e =
    subst (λ m. (low ≤ unsigned_abs m) × (unsigned_abs m ≤ high)) (same_ok (pos default) n e) (a, b)
number_or_within default low high k (Some value) n a b e = number_within low high k value n e

natural_within : (default low high : ℕ) (k : Key) (ms : Members) (n : ℕ) → low ≤ default → default ≤ high
    → natural_or default k low high ms ≡ Ok n → (low ≤ n) × (n ≤ high)
unfolding natural_or number_or
natural_within default low high k ms n a b e =
    let number = both_ok (number_or (pos default) k (pos low) (pos high) ms) _ n e in
    let within = number_or_within default low high k (get_member (name_text k.name) ms) number.value a b number.first in
    subst (λ m. (low ≤ m) × (m ≤ high)) (same_ok (unsigned_abs number.value) n number.second) within

record IsCount (c : ℕ × ℕ) : Type 0 where
  block : (1 ≤ c.0) × (c.0 ≤ MAX_BLOCK)
  workers : (1 ≤ c.1) × (c.1 ≤ MAX_WORKERS)

count_part-within : (value : Data) (c : ℕ × ℕ) → count_part value ≡ Ok c → IsCount c
unfolding count_part
count_part-within value c e =
    let part = both_ok (ok_or (as_table value) (WrongKind (count_key key.Itself))) _ c e in
    let block = both_ok (natural_or DEFAULT_BLOCK (count_key key.Block) 1 MAX_BLOCK part.value) _ c part.second in
    let workers = both_ok (natural_or DEFAULT_WORKERS (count_key key.Workers) 1 MAX_WORKERS part.value) _ c block.second in
    subst (λ x. IsCount x) (same_ok (block.value, workers.value) c workers.second)
    (record {
      block = natural_within DEFAULT_BLOCK 1 MAX_BLOCK (count_key key.Block) part.value block.value (omega arith) (omega arith) block.first;
      workers = natural_within DEFAULT_WORKERS 1 MAX_WORKERS (count_key key.Workers) part.value workers.value (omega arith) (omega arith)
          workers.first;
    })

count_if-within : (o : Option Data) (c : ℕ × ℕ) → count_if o ≡ Ok c → IsCount c
count_if-within None c e =
    subst (λ x. IsCount x) (same_ok (DEFAULT_BLOCK, DEFAULT_WORKERS) c e)
    (record { block = (omega arith, omega arith); workers = (omega arith, omega arith) })
count_if-within (Some value) c e = count_part-within value c e

count_within : (ms : Members) (c : ℕ × ℕ) → count_in ms ≡ Ok c → IsCount c
unfolding count_in
count_within ms c e = count_if-within (get_member (codes "count") ms) c e

-- names that differ in one order differ in the other
all_differ : (xs : List Gauge) → AreNamed xs → (g h : ℕ) → g < length xs → h < length xs
    → (get_or xs g no_gauge).name ≡ (get_or xs h no_gauge).name → g ≡ h
all_differ xs are g h lt lt2 e = go (cases_lt g h) (cases_lt h g)
  where
    go : (g < h) ⊎ (h ≤ g) → (h < g) ⊎ (g ≤ h) → g ≡ h
    go (inl less) other = absurd (are.differ g h less lt2 e)
    go (inr le) (inl less) = absurd (are.differ h g less lt (sym e))
    go (inr le) (inr ge) = omega (arith, le, ge)

pub config_in-valid : (ms : Members) (c : Config) → config_in ms ≡ Ok c → IsConfig c
unfolding config_in
config_in-valid ms c e =
    let grid = both_ok (grid_in ms) _ c e in
    let count = both_ok (count_in ms) _ c grid.second in
    let gauges = both_ok (gauges_in ms) _ c count.second in
    let details = both_ok (details_in gauges.value.names ms) _ c gauges.second in
    let how = count_within ms count.value count.first in
    let are = gauges_named ms gauges.value gauges.first in
    let on = details_named gauges.value.names ms details.value details.first in
    subst (λ x. IsConfig x) (same_ok _ c details.second) (record {
      some = are.some;
      few = are.few;
      gains = are.gains;
      few_details = on.few;
      block = how.block;
      workers = how.workers;
      names = are.named.names;
      differ = all_differ gauges.value.names are.named;
      on = λ d any lt. (on.are_on.each d any lt).on;
      detail_names = λ d any lt. (on.are_on.each d any lt).name;
    })

-- so it is of what the reader of a table gave
pub given_valid : (r : Result Config ConfigFault) (ms : Members) → Gives (λ c. c) r (config_in ms) → IfOk r IsConfig
given_valid (Ok c) ms e = config_in-valid ms c e
given_valid (Err fault) ms e = tt
