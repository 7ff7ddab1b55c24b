-- A list that grows by what a reader gives.
use Rattle.std.proofs.Common.{◌≡◌, ℕ, List, [], ◌++◌, refl, sym, subst, IfSome, append-nil}
use Rattle.std.proofs.KnownBytes.{Consumes-nil, Consumes-trans, Consumes-whole}
use Rattle.std.specs.declared.option.Option.{Option}
use Rattle.std.specs.Prelude.{Result}
use Rattle.std.specs.declared.io.Error.{Error}
use Rattle.std.specs.Io.KnownBytes.{Consumes, IsAtEnd}
use Rattle.streams.specs.declared.fault.InputFault.{InputFault}
use Rattle.streams.specs.declared.fault.InputFault.TheVariants.{Input, Memory}
use Rattle.streams.specs.Calls.{FailedToRead, IsOfRead, TookBy}

-- nothing was read yet
pub Consumes-at_first : (a : Option (List ℕ)) (bytes : List ℕ) → bytes ≡ [] → Consumes a a bytes
Consumes-at_first a bytes none = subst (Consumes a a) (sym none) (Consumes-nil a)

-- a read gave more
pub Consumes-further : (a b c : Option (List ℕ)) (bytes more all : List ℕ) → Consumes a b bytes → Consumes b c more → all ≡ bytes ++ more → Consumes a c all
Consumes-further a b c bytes more all before read is = subst (Consumes a c) (sym is) (Consumes-trans a b c bytes more before read)

-- a read gave nothing
pub Consumes-at_last : (a b c : Option (List ℕ)) (bytes : List ℕ) → Consumes a b bytes → Consumes b c [] → Consumes a c bytes
Consumes-at_last a b c bytes before read = Consumes-further a b c bytes [] bytes before read (sym (append-nil bytes))

-- these are all bytes
pub is_all_at_end : (a b : Option (List ℕ)) (bytes : List ℕ) → Consumes a b bytes → IsAtEnd b → IfSome a (λ there. bytes ≡ there)
is_all_at_end a b bytes taken end = Consumes-whole a b bytes (λ there. bytes ≡ there) taken end refl

-- a read failed after this many
pub failed_after : {S : Type 0} (gives : S → Result ℕ Error → List ℕ → S → Type 0) (n : ℕ) (a : S) (had : List ℕ) (b c : S) (fault : InputFault)
    → TookBy gives n a had b → IsOfRead gives b c fault → FailedToRead gives a c fault
failed_after gives n a had b c (Input e) took told = (n, had, b, took, told)
failed_after gives n a had b c Memory took told = absurd told
