-- Which calls a stream got, and what each gave.
use Rattle.std.specs.Prelude.{◌≡◌, ◌<◌, ◌-◌, ◌^◌, ◌⊎◌, ℕ, zero, suc, List, [], ◌++◌, length, take, drop, Result, Ok, Err}
use Rattle.std.specs.IoError.{error_kind}
use Rattle.std.specs.declared.io.Error.{Error}
use Rattle.std.specs.declared.io.ErrorKind.TheVariants.{Interrupted, TimedOut}
use Rattle.streams.specs.declared.fault.InputFault.{InputFault}
use Rattle.streams.specs.declared.fault.InputFault.TheVariants.{Input, Memory}
use Rattle.streams.specs.declared.fault.OutputFault.{OutputFault}
use Rattle.streams.specs.declared.fault.OutputFault.TheVariants.{Output, WriteZero}

-- ---- tries that a signal interrupted

-- this many tries in a row, each interrupted (EINTR)
abbrev pub Interrupts : {S : Type 0} → (S → Error → S → Type 0) → ℕ → S → S → Type 0
Interrupts fails zero old new = new ≡ old
Interrupts {S} fails (suc n) old new = (s : S) × (e : Error) × Interrupts fails n old s × (error_kind e ≡ Interrupted) × fails s e new

-- any number of them, but for what no machine lives to see
pub record IsTriedAgain {S : Type 0} (fails : S → Error → S → Type 0) (old new : S) : Type 0 where
  pub tries : ℕ
  pub few : tries < 2 ^ 64 - 1
  pub interrupted : Interrupts fails tries old new

-- 2^64 - 1 of them, after which it is given up, as std does
pub record IsGivenUp {S : Type 0} (fails : S → Error → S → Type 0) (old : S) (e : Error) (new : S) : Type 0 where
  pub tries : ℕ
  pub all : tries ≡ 2 ^ 64 - 1
  pub interrupted : Interrupts fails tries old new
  pub kind : error_kind e ≡ TimedOut

-- ---- writes

abbrev pub write_fails : {S : Type 0} → (S → List ℕ → Result ℕ Error → S → Type 0) → List ℕ → S → Error → S → Type 0
write_fails gives bytes a e b = gives a bytes (Err e) b

-- a write of these bytes, tried again while it was interrupted, gave this
pub record WriteGave {S : Type 0} (gives : S → List ℕ → Result ℕ Error → S → Type 0) (bytes : List ℕ) (old : S) (answer : Result ℕ Error) (new : S) : Type 0 where
  pub before : S
  pub again : IsTriedAgain (write_fails gives bytes) old before
  pub gave : gives before bytes answer new

-- a write took some first bytes of those that were left
pub record WroteOn {S : Type 0} (gives : S → List ℕ → Result ℕ Error → S → Type 0) (left : List ℕ) (old : S) (rest : List ℕ) (new : S) : Type 0 where
  pub count : ℕ
  pub some : 0 < count
  pub gave : WriteGave gives left old (Ok count) new
  pub rest_is : rest ≡ drop count left

-- this many writes, each of all bytes that were left. These are left then
abbrev pub WroteBy : {S : Type 0} → (S → List ℕ → Result ℕ Error → S → Type 0) → ℕ → List ℕ → S → List ℕ → S → Type 0
WroteBy gives zero bytes old rest new = (rest ≡ bytes) × (new ≡ old)
WroteBy {S} gives (suc n) bytes old rest new = (left : List ℕ) × (s : S) × WroteBy gives n bytes old left s × WroteOn gives left s rest new

-- the writes went on until no byte was left
abbrev pub WroteAll : {S : Type 0} → (S → List ℕ → Result ℕ Error → S → Type 0) → List ℕ → S → S → Type 0
WroteAll gives bytes old new = (n : ℕ) × WroteBy gives n bytes old [] new

-- the last write gave this fault: it failed so, or took no byte
abbrev pub IsOfWrite : {S : Type 0} → (S → List ℕ → Result ℕ Error → S → Type 0) → List ℕ → S → S → OutputFault → Type 0
IsOfWrite gives bytes old new (Output e) = WriteGave gives bytes old (Err e) new ⊎ IsGivenUp (write_fails gives bytes) old e new
IsOfWrite gives bytes old new WriteZero = WriteGave gives bytes old (Ok 0) new

-- the writes went on until one gave this fault
pub record FailedToWrite {S : Type 0} (gives : S → List ℕ → Result ℕ Error → S → Type 0) (bytes : List ℕ) (old new : S) (fault : OutputFault) : Type 0 where
  pub count : ℕ
  pub left : List ℕ
  pub before : S
  pub wrote : WroteBy gives count bytes old left before
  pub some : 0 < length left
  pub told : IsOfWrite gives left before new fault

-- ---- reads

abbrev pub read_fails : {S : Type 0} → (S → Result ℕ Error → List ℕ → S → Type 0) → S → Error → S → Type 0
read_fails gives a e b = (buffer : List ℕ) × gives a (Err e) buffer b

-- a read, tried again while it was interrupted, gave this, and left this in the buffer
pub record ReadGave {S : Type 0} (gives : S → Result ℕ Error → List ℕ → S → Type 0) (old : S) (answer : Result ℕ Error) (buffer : List ℕ) (new : S) : Type 0 where
  pub before : S
  pub again : IsTriedAgain (read_fails gives) old before
  pub gave : gives before answer buffer new

-- a read gave some next bytes
pub record TookOn {S : Type 0} (gives : S → Result ℕ Error → List ℕ → S → Type 0) (had : List ℕ) (old : S) (bytes : List ℕ) (new : S) : Type 0 where
  pub count : ℕ
  pub buffer : List ℕ
  pub some : 0 < count
  pub gave : ReadGave gives old (Ok count) buffer new
  pub bytes_are : bytes ≡ had ++ take count buffer

-- this many reads. They gave these bytes
abbrev pub TookBy : {S : Type 0} → (S → Result ℕ Error → List ℕ → S → Type 0) → ℕ → S → List ℕ → S → Type 0
TookBy gives zero old bytes new = (bytes ≡ []) × (new ≡ old)
TookBy {S} gives (suc n) old bytes new = (had : List ℕ) × (s : S) × TookBy gives n old had s × TookOn gives had s bytes new

-- the reads went on until one gave no byte
pub record TookAll {S : Type 0} (gives : S → Result ℕ Error → List ℕ → S → Type 0) (old : S) (bytes : List ℕ) (new : S) : Type 0 where
  pub count : ℕ
  pub before : S
  pub buffer : List ℕ
  pub took : TookBy gives count old bytes before
  pub end : ReadGave gives before (Ok 0) buffer new

-- the last read gave this fault
abbrev pub IsOfRead : {S : Type 0} → (S → Result ℕ Error → List ℕ → S → Type 0) → S → S → InputFault → Type 0
IsOfRead gives old new (Input e) = ((buffer : List ℕ) × ReadGave gives old (Err e) buffer new) ⊎ IsGivenUp (read_fails gives) old e new
IsOfRead gives old new Memory = ⊥

-- the reads went on until one gave this fault, or until there was no room for what it gave
abbrev pub FailedToRead : {S : Type 0} → (S → Result ℕ Error → List ℕ → S → Type 0) → S → S → InputFault → Type 0
FailedToRead {S} gives old new (Input e) = (n : ℕ) × (had : List ℕ) × (s : S) × TookBy gives n old had s × IsOfRead gives s new (Input e)
FailedToRead gives old new Memory = (n : ℕ) × (bytes : List ℕ) × (0 < n) × TookBy gives n old bytes new
