-- How a run keeps pace.
--   paced_starts   over a store that is on its station
--   put_pace       a put, whatever it answers
--   told_pace      a put with Ok, and then its line
--   paced_then     a run after a run that is level at its end
--   paced_where    where less is asked of the end; no_done: a call that failed has not done what it does
--   level_now      what is there at an end that is level; reads_now: what a store that is on its station reads as
use Rattle.std.proofs.Common.{◌≡◌, ◌≤◌, ◌+◌, inl, inr, ⊎_elim, ℕ, List, [], ◌∷◌, ◌++◌, append_assoc, refl, sym, ◌∙◌, ap, subst}
use Rattle.std.specs.Prelude.{Result, Ok, Err, IsOk, IsErr}
use Rattle.std.proofs.lemmas.List.{append-nil}
use Rattle.outside.specs.station.Station.{Image, Lines, MomentsSince, Elapses, Since, NoNew, Tells}
use Rattle.outside.proofs.on_station.Moments.{started, goes_on, continues, entails}
use Rattle.segment.specs.segment_rules.Parts.{PartsValue}
use Rattle.segment_store.specs.Image.{Reads, ends_after}
use Rattle.segment_store.specs.Held.{ends_of}
use Rattle.segment_store.specs.Moments.{StoreValue, IsOn, InPut}
use Rattle.store_bytes.specs.store_head.Head.{HeadValue}
use Rattle.count_command.specs.held_samples.Going.{RunsBy}
use Rattle.count_command.specs.held_samples.Pace.{body_line, body_lines, ReadsAs, Acknowledged, InPace, IsLevel, Paced}
use Rattle.count_command.proofs.on_held_samples.Going.{same_lines, on_still, told_either}

lines_both : (names : ℕ → List ℕ) (ps qs : List PartsValue) → body_lines names (ps ++ qs) ≡ body_lines names ps ++ body_lines names qs
lines_both names [] qs = refl
lines_both names (p ∷ ps) qs = ap (λ (l : Lines). body_line names p ∷ l) (lines_both names ps qs)

pub reads_now : (s : StoreValue) (bodies : List PartsValue) (seen : Image) (leaves : Image → Type 0) → IsOn s bodies seen leaves →
    (head : HeadValue) → s.head ≡ head → (c : Image) → leaves c → Reads head bodies (ends_of s.held) c
reads_now s bodies seen leaves on head same c has =
    subst (λ (h : HeadValue). Reads h bodies (ends_of s.held) c) same
    (subst (λ (d : Image). Reads s.head bodies (ends_of s.held) d) (sym (on.durable c has)) on.reads)

-- with no body more
reads_none : (head : HeadValue) (bodies : List PartsValue) (n : List ℕ) (c : Image) → Reads head bodies n c → ReadsAs head (bodies ++ []) c
reads_none head bodies n c reads = (n, subst (λ (b : List PartsValue). Reads head b n c) (sym (append-nil bodies)) reads)

reads_one : (head : HeadValue) (bodies : List PartsValue) (p : PartsValue) (n : List ℕ) (c : Image) → Reads head (bodies ++ p ∷ []) n c →
    ReadsAs head ((bodies ++ []) ++ p ∷ []) c
reads_one head bodies p n c reads =
    (n, subst (λ (b : List PartsValue). Reads head (b ++ p ∷ []) n c) (sym (append-nil bodies)) reads)

pub paced_starts : (names : ℕ → List ℕ) (window : ℕ) (s : StoreValue) (bodies : List PartsValue) (start : ℕ) (past : MomentsSince)
    (told : Lines) (seen : Image) (leaves : Image → Type 0) (done : Type 0) → IsOn s bodies seen leaves
    → ((lines : Lines) (c : Image) → past start lines c → (lines ≡ told) × leaves c)
    → Paced names window s.head bodies start past told start past told seen leaves s done
paced_starts names window s bodies start past told seen leaves done on only =
    let here : (lines : Lines) (c : Image) → lines ≡ told → leaves c → InPace names window s.head bodies told lines c =
    λ lines c same has. inl (record {
      more = [];
      are = same ∙ same_lines told;
      reads = reads_none s.head bodies (ends_of s.held) c (reads_now s bodies seen leaves on s.head refl c has);
    }) in
    record {
      run = record {
        run = started start past (InPace names window s.head bodies told)
            (λ lines c was. here lines c (only lines c was).0 (only lines c was).1);
        kept = λ c has. here told c refl has;
      };
      level = λ d. record {
        same = refl;
        more = [];
        are = same_lines told;
        on = subst (λ (b : List PartsValue). IsOn s b seen leaves) (sym (append-nil bodies)) on;
      };
    }

done_told : {E : Type 0} (r : Result (Unit {0}) E) (old new : Lines) (line : List ℕ) → IsOk r → Tells old line new r →
    new ≡ old ++ line ∷ []
done_told (Ok u) old new line done t = t.0
done_told (Err e) old new line done t = absurd cc

pub no_done : {A E : Type 0} (r : Result A E) → IsErr r → IsOk r → ⊥
no_done (Ok x) is done = absurd cc
no_done (Err e) is done = absurd cc

-- a put of a segment that has no more samples than a round
module _ (names : ℕ → List ℕ) (window : ℕ) (s : StoreValue) (bodies : List PartsValue) (p : PartsValue)
    (short : p.name.to ≤ p.name.from + window) (start now : ℕ) (past since : MomentsSince) (told told2 : Lines) (leaves2 : Image → Type 0)
    (run : Since start past now since (InPut told s.head bodies (ends_of s.held) p)) (same : told2 ≡ told)
    (counts : (c : Image) → leaves2 c → since start told2 c) where
  in_pace : (lines : Lines) (c : Image) → InPut told s.head bodies (ends_of s.held) p lines c →
      InPace names window s.head bodies told lines c
  in_pace lines c i = ⊎_elim
      (λ old. inl (record { more = []; are = i.0 ∙ same_lines told; reads = reads_none s.head bodies (ends_of s.held) c old }))
      (λ new. inr (record {
        more = [];
        last = p;
        are = i.0 ∙ same_lines told;
        reads = reads_one s.head bodies p (ends_after (ends_of s.held) p) c new.1;
        short = short;
      })) i.1

  pub put_pace : RunsBy (InPace names window s.head bodies told) start past now since told2 leaves2
  put_pace = record {
    run = entails start now past since (InPace names window s.head bodies told) (InPut told s.head bodies (ends_of s.held) p) run in_pace;
    kept = λ c has. in_pace told2 c (run.each told2 c (counts c has));
  }

  -- with Ok, and then its line, told or not
  pub told_pace : (s2 : StoreValue) (seen2 seen3 : Image) (next : ℕ) (later : MomentsSince) (told3 : Lines) (leaves3 : Image → Type 0) →
      s2.head ≡ s.head → IsOn s2 (bodies ++ p ∷ []) seen2 leaves2 → Elapses now next since later told3 leaves3 → seen3 ≡ seen2 →
      NoNew leaves2 leaves3 → {E : Type 0} (result : Result (Unit {0}) E) → Tells told2 (body_line names p) told3 result →
      Paced names window s.head bodies start past told next later told3 seen3 leaves3 s2 (IsOk result)
  told_pace s2 seen2 seen3 next later told3 leaves3 head on time seen none result tells =
      let line = body_line names p in
      let reads : (c : Image) → leaves3 c → Reads s.head (bodies ++ p ∷ []) (ends_of s2.held) c =
      λ c has. reads_now s2 (bodies ++ p ∷ []) seen2 leaves2 on s.head head c (none c has) in
      let here : (c : Image) → leaves3 c → InPace names window s.head bodies told told3 c =
      λ c has. ⊎_elim
      (λ more. inl (record {
        more = p ∷ [];
        are = more ∙ ap (λ (l : Lines). l ++ line ∷ []) same;
        reads = (ends_of s2.held, reads c has);
      }))
      (λ untold. inr (record {
        more = [];
        last = p;
        are = untold ∙ same ∙ same_lines told;
        reads = reads_one s.head bodies p (ends_of s2.held) c (reads c has);
        short = short;
      })) (told_either result told2 told3 line tells) in
      record {
        run = record {
          run = goes_on start now next past since later (InPace names window s.head bodies told) told3 leaves3 put_pace.run time here;
          kept = here;
        };
        level = λ done. record {
          same = head;
          more = p ∷ [];
          are = done_told result told2 told3 line done tells ∙ ap (λ (l : Lines). l ++ line ∷ []) same;
          on = on_still s2 (bodies ++ p ∷ []) seen2 seen3 leaves2 leaves3 on seen none;
        };
      }

-- what is in pace behind a run that was level is so from its entry on
module _ (names : ℕ → List ℕ) (window : ℕ) (head : HeadValue) (bodies first : List PartsValue) (told told2 : Lines)
    (so_far : told2 ≡ told ++ body_lines names first) where
  lines_then : (more : List PartsValue) (lines : Lines) → lines ≡ told2 ++ body_lines names more →
      lines ≡ told ++ body_lines names (first ++ more)
  lines_then more lines is =
      is ∙ ap (λ (l : Lines). l ++ body_lines names more) so_far ∙ append_assoc told (body_lines names first) (body_lines names more)
      ∙ ap (λ (l : Lines). told ++ l) (sym (lines_both names first more))

  pace_then : (lines : Lines) (c : Image) → InPace names window head (bodies ++ first) told2 lines c →
      InPace names window head bodies told lines c
  pace_then lines c p = ⊎_elim
      (λ a. inl (record {
        more = first ++ a.more;
        are = lines_then a.more lines a.are;
        reads = subst (λ (b : List PartsValue). ReadsAs head b c) (append_assoc bodies first a.more) a.reads;
      }))
      (λ o. inr (record {
        more = first ++ o.more;
        last = o.last;
        are = lines_then o.more lines o.are;
        reads = subst (λ (b : List PartsValue). ReadsAs head (b ++ o.last ∷ []) c) (append_assoc bodies first o.more) o.reads;
        short = o.short;
      })) p

pub paced_then : {names : ℕ → List ℕ} {window : ℕ} {head : HeadValue} {bodies : List PartsValue} {start mid now : ℕ}
    {past between since : MomentsSince} {told told2 told3 : Lines} {seen2 seen3 : Image} {leaves2 leaves3 : Image → Type 0}
    {s2 s3 : StoreValue} {done done2 : Type 0}
    → (x : Paced names window head bodies start past told mid between told2 seen2 leaves2 s2 done) → (d : done)
    → Paced names window s2.head (bodies ++ (x.level d).more) mid between told2 now since told3 seen3 leaves3 s3 done2
    → Paced names window head bodies start past told now since told3 seen3 leaves3 s3 done2
paced_then {names} {window} {head} {bodies} {start} {mid} {now} {past} {between} {since} {told} {told2} {told3} {seen2} {seen3}
    {leaves2} {leaves3} {s2} {s3} {done} {done2} x d after =
    let l = x.level d in
    let y = subst (λ (h : HeadValue). Paced names window h (bodies ++ l.more) mid between told2 now since told3 seen3 leaves3 s3 done2)
    l.same after in
    record {
      run = record {
        run = continues start mid now past between since (InPace names window head bodies told)
            (InPace names window head (bodies ++ l.more) told2) x.run.run y.run.run
            (λ lines c p. pace_then names window head bodies l.more told told2 l.are lines c p);
        kept = λ c has. pace_then names window head bodies l.more told told2 l.are told3 c (y.run.kept c has);
      };
      level = λ e. let m = y.level e in record {
        same = m.same;
        more = l.more ++ m.more;
        are = lines_then names window head bodies l.more told told2 l.are m.more told3 m.are;
        on = subst (λ (b : List PartsValue). IsOn s3 b seen3 leaves3) (append_assoc bodies l.more m.more) m.on;
      };
    }

pub paced_where : {names : ℕ → List ℕ} {window : ℕ} {head : HeadValue} {bodies : List PartsValue} {start now : ℕ}
    {past since : MomentsSince} {told told2 : Lines} {seen : Image} {leaves : Image → Type 0} {s : StoreValue} {done done2 : Type 0}
    → (done2 → done) → Paced names window head bodies start past told now since told2 seen leaves s done
    → Paced names window head bodies start past told now since told2 seen leaves s done2
paced_where f x = record { run = x.run; level = λ d. x.level (f d) }

pub level_now : {names : ℕ → List ℕ} {head : HeadValue} {bodies : List PartsValue} {told told2 : Lines} {seen : Image}
    {leaves : Image → Type 0} {s : StoreValue} → IsLevel names head bodies told told2 seen leaves s → (c : Image) → leaves c
    → Acknowledged names head bodies told told2 c
level_now {head = head} {bodies = bodies} {seen = seen} {leaves = leaves} {s = s} l c has = record {
  more = l.more;
  are = l.are;
  reads = (ends_of s.held, reads_now s (bodies ++ l.more) seen leaves l.on head l.same c has);
}
