use Rattle.std.proofs.Common.{◌≡◌, ◌+◌, length, ℕ, List, ◌<◌, arith, get_or, ◌∙◌, sym}
use Rattle.std.proofs.lemmas.List.{same_lists, get_or_default}
use Rattle.tally.specs.tables.Tables.{sum_of_tables}
use Rattle.tally.proofs.on_tables.Counting.{added_at, length_added}
use Rattle.tally.proofs.tables.add_all.Goals as goal

all_added : (s a b : List ℕ) → length a ≡ length b → length s ≡ length a →
    ((k : ℕ) → k < length a → get_or s k 0 ≡ get_or a k 0 + get_or b k 0) → s ≡ sum_of_tables a b
all_added s a b e f h =
    let g = length_added a b in
    same_lists s (sum_of_tables a b) (f ∙ sym g) (λ k d l.
    let m : k < length a = omega arith in
    let n : k < length (sum_of_tables a b) = omega (arith, g) in
    get_or_default s k d 0 l ∙ h k m ∙ sym (added_at a b k e) ∙ sym (get_or_default (sum_of_tables a b) k d 0 n))

pub returns : goal.returns
returns c = all_added c.loop-i.left c.args.left.now c.args.right.now c.requires.same c.loop-i.invariant.same
    (λ k h. c.loop-i.invariant.done k (omega arith))
