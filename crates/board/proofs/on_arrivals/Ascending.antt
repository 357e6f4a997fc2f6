-- The blocks of a gauge that a worker gets ascend.
use Rattle.std.proofs.Common.{◌≡◌, ◌<◌, ◌+◌, ◌*◌, ◌%◌, ◌&&◌, ℕ, zero, suc, List, [], ◌∷◌, ◌++◌, length, sym, subst, arith, Bool, true, false, cond, eqb, ltb}
use Rattle.std.proofs.lemmas.List.{append-nil}
use Rattle.segment.specs.declared.segment_rules.name.Name.{Name}
use Rattle.board.specs.flow.Kept.{Each, NamesAscend}
use Rattle.board.specs.flow.Kept.Each.{none}
use Rattle.board.specs.flow.Kept.NamesAscend.{empty}
use Rattle.board.proofs.on_flow.Counting.{each_append, each_map, ascends_push, each_cond}
use Rattle.board.specs.arrivals.Arrivals.{Round, name_at, fed_to, ArrivalsAscend}
use Rattle.board.specs.declared.flow.TheConstants.{BLOCKS_PER_WINDOW}

push_cond : (t : Bool) (l : List Name) (m : Name) → NamesAscend l → Each (λ n. n.from < m.from) l → NamesAscend (l ++ cond t (m ∷ []) [])
push_cond true l m a b = ascends_push l m a b
push_cond false l m a b = subst NamesAscend (sym (append-nil l)) a

module _ (block workers : ℕ) (r : Round) (pos : 0 < block) where
  fed_below : (g v k : ℕ) → Each (λ n. n.from < r.at g + k * block) (fed_to block workers r g v k)
  fed_below g v zero = none
  fed_below g v (suc k) =
      let step : suc k * block ≡ k * block + block = omega arith in
      each_append (fed_to block workers r g v k)
      (cond (ltb (r.at g + k * block) (length (r.samples g)) && eqb (k % workers) v) (name_at block workers r g k ∷ []) [])
      (each_map (fed_to block workers r g v k) (λ n h. omega (arith, h, step)) (fed_below g v k))
      (each_cond (name_at block workers r g k) [] (ltb (r.at g + k * block) (length (r.samples g)) && eqb (k % workers) v)
      (λ t. omega (arith, step, pos)) none)

  fed_ascends : (g v k : ℕ) → NamesAscend (fed_to block workers r g v k)
  fed_ascends g v zero = empty
  fed_ascends g v (suc k) =
      push_cond (ltb (r.at g + k * block) (length (r.samples g)) && eqb (k % workers) v) (fed_to block workers r g v k)
      (name_at block workers r g k) (fed_ascends g v k) (fed_below g v k)

pub ascends : ArrivalsAscend
ascends block workers gauges r l pos h g v m n = subst NamesAscend (sym (h.through g v m n))
    (fed_ascends block workers r pos g v BLOCKS_PER_WINDOW)
