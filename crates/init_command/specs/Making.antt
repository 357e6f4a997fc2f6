-- What making the store answers, and what is there at a moment of it.
use Rattle.std.specs.Prelude.{◌≡◌, ◌≢◌, ◌⊎◌, ℕ, ⊤, List, [], ◌∷◌, ◌++◌}
use Rattle.outside.specs.station.Station.{Lines, IsMoment}
use Rattle.segment_store.specs.Beginning.{IsBegunAs}
use Rattle.segment_store.specs.declared.fault.InitFault.{InitFault}
use Rattle.segment_store.specs.declared.fault.InitFault.TheVariants as inits
use Rattle.status.specs.declared.status.StoreFault.TheVariants.{NotEmpty}
use Rattle.status.specs.declared.status.Status.{Status}
use Rattle.status.specs.declared.status.Status.TheVariants.{Done, Store, DiskFault, OutOfMemory}

-- nothing was told yet, and the image is too short for a head, or has no open ready byte, or is the new store; or this
-- line was told, and it is the new store
abbrev pub InStore : Lines → List ℕ → List ℕ → IsMoment
InStore told line bytes lines c = ((lines ≡ told) × IsBegunAs bytes c) ⊎ ((lines ≡ told ++ line ∷ []) × (c ≡ bytes))

abbrev pub init_status : InitFault → Status
init_status (inits.NotEmpty size) = Store (NotEmpty size)
init_status inits.DiskFault = DiskFault
init_status inits.OutOfMemory = OutOfMemory

-- over a station with so many bytes
abbrev pub MakesBy : ℕ → Status → Type 0
MakesBy size Done = size ≡ 0
MakesBy size (Store (NotEmpty n)) = (n ≡ size) × (n ≢ 0)
MakesBy size DiskFault = ⊤
MakesBy size OutOfMemory = ⊤
MakesBy size status = ⊥

abbrev pub IsMaking : Status → Type 0
IsMaking Done = ⊤
IsMaking (Store (NotEmpty n)) = ⊤
IsMaking DiskFault = ⊤
IsMaking OutOfMemory = ⊤
IsMaking status = ⊥

-- a fact where nothing was written
abbrev pub WhereUnmade : Status → Type 0 → Type 0
WhereUnmade (Store fault) P = P
WhereUnmade OutOfMemory P = P
WhereUnmade status P = ⊤
