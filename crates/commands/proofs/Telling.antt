-- What goes to standard error, part by part.
use Rattle.std.proofs.lemmas.List.{take-append-le}
use Rattle.std.proofs.KnownBytes.{Appends-kept, Appends-trans}
use Rattle.std.proofs.Math.Seq.{take-length, take-append-add}
use Rattle.streams.specs.Streams.{AppendsBeginning}
use Rattle.commands.proofs.Common.{Appends, AppendsSome, Err, Keeps, List, Ok, OnErr, OnOk, Option, Result, arith, length, length-append, subst, sym, take, ℕ, ◌++◌, ◌+◌}

-- ---- known bytes

pub some_kept : (a b c : Option (List ℕ)) (text : List ℕ) → AppendsSome a b text → Keeps b c → AppendsSome a c text
some_kept a b c text it kept = (it.0, it.1, Appends-kept a b c (take it.0 text) it.2 kept)

pub all_or_some : {A E : Type 0} (r : Result A E) (a b : Option (List ℕ)) (text : List ℕ) → OnOk r (Appends a b text) → OnErr r (AppendsSome a b text) → AppendsSome a b text
all_or_some (Ok x) a b text all some = (length text, omega arith, subst (Appends a b) (sym (take-length text)) all)
all_or_some (Err e) a b text all some = some

-- ---- one part after the other

pub some_longer : (a b : Option (List ℕ)) (x y : List ℕ) → AppendsSome a b x → AppendsSome a b (x ++ y)
some_longer a b x y it =
    let long = length-append x y in let le = it.1 in
    (it.0, omega arith, subst (Appends a b) (sym (take-append-le it.0 x y it.1)) it.2)

pub after_all : (a b c : Option (List ℕ)) (x y : List ℕ) → Appends a b x → AppendsSome b c y → AppendsSome a c (x ++ y)
after_all a b c x y gone it =
    let long = length-append x y in let le = it.1 in
    (length x + it.0, omega arith, subst (Appends a c) (sym (take-append-add x y it.0)) (Appends-trans a b c x (take it.0 y) gone it.2))

pub begun_some : (a b : Option (List ℕ)) (x : List ℕ) → AppendsBeginning a b x → AppendsSome a b x
begun_some a b x (count, less, went) = (count, omega arith, went)

-- ---- what a call ends with

pub then_all : {A E : Type 0} (r : Result A E) (a b c : Option (List ℕ)) (x y : List ℕ) → Appends a b x → OnOk r (Appends b c y) → OnOk r (Appends a c (x ++ y))
then_all (Ok v) a b c x y gone more = Appends-trans a b c x y gone more
then_all (Err e) a b c x y gone more = tt

pub then_some : {A E : Type 0} (r : Result A E) (a b c : Option (List ℕ)) (x y : List ℕ) → Appends a b x → OnErr r (AppendsSome b c y) → OnErr r (AppendsSome a c (x ++ y))
then_some (Ok v) a b c x y gone more = tt
then_some (Err e) a b c x y gone more = after_all a b c x y gone more

pub err_some : {A E : Type 0} (r : Result A E) (a b : Option (List ℕ)) (x : List ℕ) → OnErr r (AppendsBeginning a b x) → OnErr r (AppendsSome a b x)
err_some (Ok v) a b x it = tt
err_some (Err e) a b x it = begun_some a b x it
