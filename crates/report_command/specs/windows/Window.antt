-- Windows of time. An instant is a whole number of nanoseconds.
--   IsInstant     the instants that a window may have
--   instant_of    of a sample: sample 0 stands at the start, and the others are so many microseconds apart
--   lies_inside   a body begins and ends inside
--   inside_of     the bodies of a list that lie inside
--   window_of     the samples that bodies name, from the first start to the last end; 0 to 0 where there is none
use Rattle.std.specs.Prelude.{◌≤◌, ◌*◌, ◌^◌, ℕ, ℤ, pos, ◌+ℤ◌, Bool, ◌&&◌, int_le, unsigned_abs, List, [], ◌∷◌, filter}
use Rattle.segment.specs.declared.segment_rules.name.Name.{Name}
use Rattle.segment.specs.segment_rules.Parts.{PartsValue}

abbrev pub IsInstant : ℤ → Type 0
IsInstant t = unsigned_abs t ≤ 2 ^ 70

abbrev pub instant_of : ℤ → ℕ → ℕ → ℤ
instant_of start period_us i = start +ℤ pos (i * period_us * 1000)

abbrev pub lies_inside : ℤ → ℕ → ℤ → ℤ → Name → Bool
lies_inside start period_us from to name =
    int_le from (instant_of start period_us name.from) && int_le (instant_of start period_us name.to) to

abbrev pub inside_of : ℤ → ℕ → ℤ → ℤ → List PartsValue → List PartsValue
inside_of start period_us from to bodies = filter (λ b. lies_inside start period_us from to b.name) bodies

abbrev pub window_end : ℕ → List PartsValue → ℕ
window_end end [] = end
window_end end (b ∷ bodies) = window_end b.name.to bodies

abbrev pub window_of : List PartsValue → ℕ × ℕ
window_of [] = (0, 0)
window_of (b ∷ bodies) = (b.name.from, window_end b.name.to bodies)
