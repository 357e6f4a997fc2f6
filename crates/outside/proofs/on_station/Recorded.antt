-- One call more joins those of a station in memory.
use Rattle.std.proofs.Common.{◌≡◌, ◌≤◌, ◌⊎◌, inl, inr, ⊎_elim, ℕ, suc, zero, ◌+◌, Bool, true, false, List, [], ◌∷◌, ◌++◌, length, take, IsTrue, Vec, Global, refl, sym, ◌∙◌, ap, subst, arith, append_assoc, length-append}
use Rattle.std.proofs.lemmas.Bool.{and_parts, and_from}
use Rattle.std.proofs.lemmas.List.{take_all, append-nil}
use Rattle.outside.specs.declared.station.call.Call.{Call}
use Rattle.outside.specs.declared.station.call.Call.TheVariants.{Other, Write, Sync, Tell}
use Rattle.outside.specs.station.Station.{Image, Lines, IsTornWrite}
use Rattle.outside.specs.station.Moments.{may_leave-seen}
use Rattle.outside.specs.station.Calls.{Disk, Past, fresh_disk, disk_after, disk_of, lines_of, bytes_of, have_no_gap, DiskMayLeave, MayLeave, HadMoment, Passes, PushesCall}
use Rattle.outside.proofs.on_station.Moments.{same_torn}

abbrev pub past : Image → List Call → Past
past image calls = record { image = image; calls = calls }

pub disk_push : (calls : List Call) (d : Disk) (call : Call) → disk_of d (calls ++ call ∷ []) ≡ disk_after (disk_of d calls) call
disk_push [] d call = refl
disk_push (x ∷ calls) d call = disk_push calls (disk_after d x) call

pub lines_push : (calls : List Call) (call : Call) → lines_of (calls ++ call ∷ []) ≡ lines_of calls ++ lines_of (call ∷ [])
lines_push [] call = refl
lines_push (Other ∷ calls) call = lines_push calls call
lines_push (Write at bytes ∷ calls) call = lines_push calls call
lines_push (Sync ∷ calls) call = lines_push calls call
lines_push (Tell line ∷ calls) call = ap (λ l. line.items ∷ l) (lines_push calls call)

pub bytes_push : (lines more : Lines) → bytes_of (lines ++ more) ≡ bytes_of lines ++ bytes_of more
bytes_push [] more = refl
bytes_push (l ∷ lines) more = ap (λ b. l ++ b) (bytes_push lines more) ∙ sym (append_assoc l (bytes_of lines) (bytes_of more))

pub placed_push : (calls : List Call) (d : Disk) (call : Call) → have_no_gap d calls ≡ true
    → have_no_gap (disk_of d calls) (call ∷ []) ≡ true → have_no_gap d (calls ++ call ∷ []) ≡ true
placed_push [] d call so_far here = here
placed_push (Other ∷ calls) d call so_far here = placed_push calls d call so_far here
placed_push (Write at bytes ∷ calls) d call so_far here =
    let p = and_parts _ _ so_far in and_from _ _ p.0 (placed_push calls (disk_after d (Write at bytes)) call p.1 here)
placed_push (Sync ∷ calls) d call so_far here = placed_push calls (disk_after d Sync) call so_far here
placed_push (Tell line ∷ calls) d call so_far here = placed_push calls d call so_far here

-- nothing was remembered
pub stays : (image : Image) (calls : List Call) → Passes (past image calls) (past image calls)
stays image calls = record { later = omega arith; nothing_else = λ t lines c le was. inl was; keeps = λ t lines c le was. was }

-- a front of one more
take_front : (k : ℕ) (calls : List Call) (call : Call) → k ≤ length calls → take k (calls ++ call ∷ []) ≡ take k calls
take_front zero calls call le = refl
take_front (suc k) [] call le = absurd (omega arith)
take_front (suc k) (x ∷ calls) call le = ap (λ l. x ∷ l) (take_front k calls call (omega arith))

le_or : (k n : ℕ) → (k ≤ n) ⊎ (n + 1 ≤ k)
le_or zero n = inl (omega arith)
le_or (suc k) zero = inr (omega arith)
le_or (suc k) (suc n) = ⊎_elim (λ le. inl (omega (arith, le))) (λ lt. inr (omega (arith, lt))) (le_or k n)

pub goes : (image : Image) (calls : List Call) (call : Call) → Passes (past image calls) (past image (calls ++ call ∷ []))
goes image calls call = record {
  later = omega (arith, long);
  nothing_else = λ t lines c le was. split t lines c was (le_or was.0 (length calls));
  keeps = λ t lines c le was.
      let same = sym (take_front was.0 calls call was.2) in
      let image_then = subst (λ l. MayLeave (past image l) c) same was.4 in
      (was.0, was.1, omega (arith, long, was.2), was.3 ∙ ap lines_of same, image_then);
}
  where
    long : length (calls ++ call ∷ []) ≡ length calls + 1
    long = length-append calls (call ∷ [])

    split : (t : ℕ) (lines : Lines) (c : Image) (was : HadMoment (past image (calls ++ call ∷ [])) t lines c)
        → ((was.0 ≤ length calls) ⊎ (length calls + 1 ≤ was.0)) → HadMoment (past image calls) t lines c
        ⊎ ((lines ≡ lines_of (calls ++ call ∷ [])) × MayLeave (past image (calls ++ call ∷ [])) c)
    split t lines c was (inl old) =
        let same = take_front was.0 calls call old in
        inl (was.0, was.1, old, was.3 ∙ ap lines_of same, subst (λ l. MayLeave (past image l) c) same was.4)
    split t lines c was (inr new) =
        let whole : take was.0 (calls ++ call ∷ []) ≡ calls ++ call ∷ [] =
        take_all was.0 (calls ++ call ∷ []) (omega (arith, long, new)) in
        inr (was.3 ∙ ap lines_of whole, subst (λ l. MayLeave (past image l) c) whole was.4)

-- a call that changes the disk so, and tells nothing more
pub goes_to : (image : Image) (calls later : List Call) (call : Call) → later ≡ calls ++ call ∷ []
    → Passes (past image calls) (past image later)
goes_to image calls later call is = subst (λ l. Passes (past image calls) (past image l)) (sym is) (goes image calls call)

-- a call that changes nothing, remembered or not
pub disk_other : (r : Bool) (image : Image) (calls later : List Call) → PushesCall r calls later Other
    → disk_of (fresh_disk image) later ≡ disk_of (fresh_disk image) calls
disk_other true image calls later is = ap (λ l. disk_of (fresh_disk image) l) is ∙ disk_push calls (fresh_disk image) Other
disk_other false image calls later is = ap (λ l. disk_of (fresh_disk image) l) is

pub lines_other : (r : Bool) (calls later : List Call) → PushesCall r calls later Other → lines_of later ≡ lines_of calls
lines_other true calls later is = ap lines_of is ∙ lines_push calls Other ∙ append-nil (lines_of calls)
lines_other false calls later is = ap lines_of is

pub placed_other : (r : Bool) (image : Image) (calls later : List Call) → PushesCall r calls later Other
    → have_no_gap (fresh_disk image) calls ≡ true → have_no_gap (fresh_disk image) later ≡ true
placed_other true image calls later is placed = ap (λ l. have_no_gap (fresh_disk image) l) is
    ∙ placed_push calls (fresh_disk image) Other placed refl
placed_other false image calls later is placed = ap (λ l. have_no_gap (fresh_disk image) l) is ∙ placed

pub time_of : (r : Bool) (image : Image) (calls later : List Call) (call : Call) → PushesCall r calls later call
    → Passes (past image calls) (past image later)
time_of true image calls later call is = goes_to image calls later call is
time_of false image calls later call is = subst (λ l. Passes (past image calls) (past image l)) (sym is) (stays image calls)

-- a call that was remembered, on the disk, in the lines and in the images
module _ (image : Image) (calls later : List Call) where
  pub disk_at : (call : Call) → later ≡ calls ++ call ∷ []
      → disk_of (fresh_disk image) later ≡ disk_after (disk_of (fresh_disk image) calls) call
  disk_at call is = ap (λ l. disk_of (fresh_disk image) l) is ∙ disk_push calls (fresh_disk image) call

  pub lines_at : (call : Call) → later ≡ calls ++ call ∷ [] → lines_of later ≡ lines_of calls ++ lines_of (call ∷ [])
  lines_at call is = ap lines_of is ∙ lines_push calls call

  pub placed_at : (call : Call) → later ≡ calls ++ call ∷ [] → have_no_gap (fresh_disk image) calls ≡ true
      → have_no_gap (disk_of (fresh_disk image) calls) (call ∷ []) ≡ true → have_no_gap (fresh_disk image) later ≡ true
  placed_at call is so_far here = ap (λ l. have_no_gap (fresh_disk image) l) is ∙ placed_push calls (fresh_disk image) call so_far here

  pub images_at : (call : Call) → later ≡ calls ++ call ∷ [] → (c : Image) → MayLeave (past image later) c
      → DiskMayLeave (disk_after (disk_of (fresh_disk image) calls) call) c
  images_at call is c has = subst (λ d. DiskMayLeave d c) (disk_at call is) has

-- a sync, remembered or not
pub seen_sync : (r : Bool) (image : Image) (calls later : List Call) → PushesCall r calls later Sync
    → (disk_of (fresh_disk image) later).seen ≡ (disk_of (fresh_disk image) calls).seen
seen_sync true image calls later is = ap (λ (d : Disk). d.seen) (disk_at image calls later Sync is)
seen_sync false image calls later is = ap (λ l. (disk_of (fresh_disk image) l).seen) is

pub lines_sync : (r : Bool) (calls later : List Call) → PushesCall r calls later Sync → lines_of later ≡ lines_of calls
lines_sync true calls later is = lines_at [] calls later Sync is ∙ append-nil (lines_of calls)
lines_sync false calls later is = ap lines_of is

pub placed_sync : (r : Bool) (image : Image) (calls later : List Call) → PushesCall r calls later Sync
    → have_no_gap (fresh_disk image) calls ≡ true → have_no_gap (fresh_disk image) later ≡ true
placed_sync true image calls later is placed = placed_at image calls later Sync is placed refl
placed_sync false image calls later is placed = ap (λ l. have_no_gap (fresh_disk image) l) is ∙ placed

pub only_sync : (r : Bool) (image : Image) (calls later : List Call) → PushesCall r calls later Sync → IsTrue r → (c : Image)
    → MayLeave (past image later) c → c ≡ (disk_of (fresh_disk image) calls).seen
only_sync true image calls later is told c has = images_at image calls later Sync is c has
only_sync false image calls later is told c has = absurd (false_is_not told)
  where
    false_is_not : false ≡ true → ⊥
    false_is_not h = cc

pub none_new_sync : (r : Bool) (image : Image) (calls later : List Call) → have_no_gap (fresh_disk image) calls ≡ true
    → PushesCall r calls later Sync → (c : Image) → MayLeave (past image later) c → MayLeave (past image calls) c
none_new_sync true image calls later placed is c has =
    subst (λ f. MayLeave (past image calls) f) (sym (images_at image calls later Sync is c has)) (may_leave-seen (past image calls) placed)
none_new_sync false image calls later placed is c has = subst (λ l. MayLeave (past image l) c) is has

pub follows_write : (r : Bool) (image : Image) (calls later : List Call) (at : ℕ) (copy : Vec ℕ Global)
    → PushesCall r calls later (Write at copy) → (c : Image) → MayLeave (past image later) c → (d : Image) × MayLeave (past image calls) d
    × IsTornWrite at (length copy.items) d c
follows_write true image calls later at copy is c has = images_at image calls later (Write at copy) is c has
follows_write false image calls later at copy is c has =
    (c, subst (λ l. MayLeave (past image l) c) is has, same_torn at (length copy.items) c)
