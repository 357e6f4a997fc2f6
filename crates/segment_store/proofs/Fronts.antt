-- What is written piece by piece.
--   IsFront       so much of a whole is written, and this is left of it
--   front_starts, front_more, front_whole, front_failed
--   copies_first  the first of the held segments, and the others
--   one_copy      the bytes of one
--   framed        an open gate before the bytes of a body
--   copy_text     the whole copy
use Rattle.std.proofs.Common.{◌≡◌, ℕ, suc, ◌+◌, ◌-◌, ◌<◌, Bool, true, false, List, [], ◌∷◌, ◌++◌, length, take, drop, get_or, set, min, refl, sym, ap, ◌∙◌, arith, append_assoc, append-nil, take-append-drop, length-append}
use Rattle.std.specs.Prelude.{Result, Ok, Err, OnErr}
use Rattle.std.proofs.lemmas.Bool.{lt-ltb}
use Rattle.std.proofs.lemmas.List.{at_drop_more, take-append-le, take_min, take_at}
use Rattle.std.proofs.Math.Seq.{take-append-add}
use Rattle.outside.specs.Sink.{AppendsPrefix}
use Rattle.segment.specs.Segment.{SegmentValue}
use Rattle.segment.specs.Parts.{parts_of}
use Rattle.store_bytes.specs.declared.segment_bytes.layout.Layout.TheVariants.{Two}
use Rattle.store_bytes.specs.segment_bytes.Grammar.{body_of}
use Rattle.store_bytes.specs.store_head.Head.{HeadValue, head_of, empty_store}
use Rattle.segment_store.specs.Copy.{copies_of, written_of}
use Rattle.segment_store.specs.Image.{open_bodies, with_digest}
use Rattle.segment_store.proofs.Copied.{has_samples, with_it, without_it}

pub record IsFront (old now whole rest : List ℕ) : Type 0 where
  pub front : List ℕ
  pub written : now ≡ old ++ front
  pub all : whole ≡ front ++ rest

pub front_starts : (old whole : List ℕ) → IsFront old old whole whole
front_starts old whole = record { front = []; written = sym (append-nil old); all = refl }

pub front_more : (old now new whole piece rest : List ℕ) → IsFront old now whole (piece ++ rest) → new ≡ now ++ piece
    → IsFront old new whole rest
front_more old now new whole piece rest p e = record {
  front = p.front ++ piece;
  written = e ∙ (ap (λ l. l ++ piece) p.written ∙ append_assoc old p.front piece);
  all = p.all ∙ sym (append_assoc p.front piece rest);
}

-- a put that failed left a front of the whole
pub front_failed : (old now new whole piece rest : List ℕ) → IsFront old now whole (piece ++ rest) → AppendsPrefix now new piece
    → AppendsPrefix old new whole
front_failed old now new whole piece rest p (j, is) =
    let few = min j (length piece) in
    let cut : take (length p.front + few) whole ≡ p.front ++ take j piece =
    ap (take (length p.front + few)) p.all ∙ (take-append-add p.front (piece ++ rest) few
    ∙ ap (λ l. p.front ++ l) (take-append-le few piece rest (omega arith) ∙ take_min j piece)) in (
      length p.front + few,
      is ∙ (ap (λ l. l ++ take j piece) p.written ∙
          (append_assoc old p.front (take j piece) ∙ ap (λ l. old ++ l) (sym cut))),
    )

-- ---- the held segments, one after the other

first_by : (v : SegmentValue) (held : List SegmentValue) → (b : Bool) → has_samples v ≡ b
    → open_bodies Two (copies_of (v ∷ held)) ≡ open_bodies Two (copies_of (v ∷ [])) ++ open_bodies Two (copies_of held)
first_by v held true is =
    let body = with_digest (body_of Two (parts_of v)) in
    ap (open_bodies Two) (with_it v held is)
    ∙ ap (λ (l : List ℕ). 1 ∷ (l ++ open_bodies Two (copies_of held))) (sym (append-nil body))
    ∙ ap (λ l. open_bodies Two l ++ open_bodies Two (copies_of held)) (sym (with_it v [] is))
first_by v held false is = ap (open_bodies Two) (without_it v held is)
    ∙ ap (λ l. open_bodies Two l ++ open_bodies Two (copies_of held)) (sym (without_it v [] is))

pub copies_first : (held : List SegmentValue) (i : ℕ) (d : SegmentValue) → i < length held
    → written_of (drop i held) ≡ written_of (get_or held i d ∷ []) ++ written_of (drop (i + 1) held)
copies_first held i d lt = at_drop_more written_of held i d lt
    ∙ first_by (get_or held i d) (drop (i + 1) held) (has_samples (get_or held i d)) refl

pub one_copy : (v : SegmentValue) → v.from < v.to → written_of (v ∷ []) ≡ 1 ∷ with_digest (body_of Two (parts_of v))
one_copy v lt = ap (open_bodies Two) (with_it v [] (lt-ltb v.from v.to lt))
    ∙ ap (λ (l : List ℕ). 1 ∷ l) (append-nil (with_digest (body_of Two (parts_of v))))

-- ---- a body behind an open gate

front_of : (n : ℕ) (body b rest : List ℕ) → take n body ≡ b ++ rest → take (length b) body ≡ b
front_of n body b rest is =
    ap (take (length b)) (sym (take-append-drop n body) ∙ ap (λ (l : List ℕ). l ++ drop n body) is ∙ append_assoc b rest (drop n body))
    ∙ take_at b (rest ++ drop n body) (length b) refl

pub framed : (gate body b : List ℕ) (n : ℕ) → length gate ≡ 1 → take n body ≡ b ++ 0 ∷ [] → n ≡ length b + 1
    → take n (set gate 0 1 ++ body) ≡ 1 ∷ b
framed [] body b n one is len = absurd (omega (arith, one))
framed (x ∷ y ∷ gate) body b n one is len = absurd (omega (arith, one))
framed (x ∷ []) body b n one is len =
    let e : n ≡ suc (length b) = omega (arith, len) in
    ap (λ k. take k (1 ∷ body)) e ∙ ap (λ (l : List ℕ). 1 ∷ l) (front_of n body b (0 ∷ []) is)

pub on_err_more : {T E : Type 0} (P Q : Type 0) (r : Result T E) → (P → Q) → OnErr r P → OnErr r Q
on_err_more P Q (Ok x) go p = tt
on_err_more P Q (Err e) go p = go p

-- the head without its gate, the held segments and a closed gate
pub copy_text : (head : List ℕ) (h : HeadValue) (held held2 : List SegmentValue) → head ≡ empty_store h → held ≡ held2
    → (take (length head - 1) head ++ written_of held) ++ 0 ∷ [] ≡ (head_of h ++ written_of held2) ++ 0 ∷ []
copy_text head h held held2 e f =
    let cut : take (length (head_of h ++ 0 ∷ []) - 1) (head_of h ++ 0 ∷ []) ≡ head_of h =
    take_at (head_of h) (0 ∷ []) (length (head_of h ++ 0 ∷ []) - 1) (omega (arith, length-append (head_of h) (0 ∷ []))) in
    ap (λ (l : List ℕ). (take (length l - 1) l ++ written_of held) ++ 0 ∷ []) e
    ∙ ap (λ (l : List ℕ). (l ++ written_of held) ++ 0 ∷ []) cut
    ∙ ap (λ (l : List SegmentValue). (head_of h ++ written_of l) ++ 0 ∷ []) f
