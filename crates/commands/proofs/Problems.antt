-- Which problems there are, kind by kind, and what a history is told as.
use Rattle.std.specs.Borrow.{Bor}
use Rattle.std.specs.Global.{Vec}
use Rattle.script.specs.Tables.{IsTableOf}
use Rattle.script_text.specs.{IsTableText, IsToldOfText, SaysScript}
use Rattle.explore.specs.Courses.{Among}
use Rattle.checks.specs.{IsTablesText, AreAmong, IsVerdict}
use Rattle.command_line.specs.declared.job.Look.{Look}
use Rattle.commands.specs.declared.problem.Problem.{Problem}
use Rattle.commands.specs.declared.problem.Problem.TheVariants.{Input, Output, Line, Memory}
use Rattle.command_line.specs.declared.job.Job.{Job}
use Rattle.command_line.specs.declared.job.Job.TheVariants.{Run, Outcomes, History, Check}
use Rattle.commands.specs.Status.{of_script}
use Rattle.commands.proofs.Printing.{reads_of}
use Rattle.script.specs.declared.table.Table.{Table}
use Rattle.script_text.specs.declared.fault.ScriptFault.{ScriptFault}
use Rattle.commands.specs.declared.answer.Reply.{Reply}
use Rattle.commands.specs.{CountsFor, EndsBy, IsAnswer, Explains, IsOfBytes, IsOfFile, IsOfFiles, IsOfLimit, IsOfJob, IsOfTable}
use Rattle.commands.proofs.Common.{AreAll, AreRead, AreRuns, Bool, Err, IfErr, IfErr-weaker, IfOk, IfOk-weaker, IsLookText, IsRunsText, IsTrue, Keeps, Known, List, Ok, Option, PrintsOf, Result, Script, Some, [], ap, arith, drop, get_or, given_of, inl, inr, length, map, none_text, refl, rows_of, runs_text, subst, sym, unwrap_or, ℕ, ℤ, ◌↔◌, ◌∙◌, ◌∷◌, ◌≡◌, ◌≤◌, ◌⊎◌}

pub of_files : (c : Script) (given : List (List ℕ × List ℕ)) (x : List ℕ × List ℕ) (p : Problem) → Among x given → IsOfFile c x.1 p → IsOfFiles c given p
of_files c given x (Line fault) there is = (x, there, is)
of_files c given x Memory there is = tt
of_files c given x _ there is = absurd is

of_table : (c : Script) (given : List (List ℕ × List ℕ)) (x : List ℕ × List ℕ) (p : Problem) → Among x given → IsOfBytes c x.1 p → IsOfTable c given p
of_table c given x (Line fault) there is = (x, there, is)
of_table c given x Memory there is = tt
of_table c given x Input there is = tt
of_table c given x _ there is = absurd is

-- the first that is given
pub first_given : (given : List (Bor (List ℕ) × Vec ℕ)) (x : Bor (List ℕ) × Vec ℕ) → 1 ≤ length given → x ≡ get_or given 0 x → map given_of given ≡ given_of x ∷ map given_of (drop 1 given)
first_given [] x le is = absurd (omega arith)
first_given (y ∷ ys) x le is = rw is refl

pub of_first : {A : Type 0} (r : Result A Problem) (c : Script) (limit : ℕ) (given : List (Bor (List ℕ) × Vec ℕ)) (x : Bor (List ℕ) × Vec ℕ) → 1 ≤ length given → x ≡ get_or given 0 x
    → IfErr r (λ p. IsOfBytes c x.1.items p ⊎ IsOfLimit c limit p) → IfErr r (λ p. IsOfTable c (map given_of given) p ⊎ IsOfLimit c limit p)
of_first r c limit given x le is why = IfErr-weaker r _ _ (λ p q. lifted p q) why where
  there : Among (given_of x) (map given_of given)
  there = rw (first_given given x le is) (inl refl)

  lifted : (p : Problem) → IsOfBytes c x.1.items p ⊎ IsOfLimit c limit p → IsOfTable c (map given_of given) p ⊎ IsOfLimit c limit p
  lifted p (inl q) = inl (of_table c (map given_of given) (given_of x) p there q)
  lifted p (inr q) = inr q

pub look_none : {E : Type 0} (r : Result (Vec ℕ) E) (look : Look) (c : Script) (bytes : List ℕ) (rows : List (ℤ × List ℕ)) → IsTableText c.entries.items rows bytes → ¬ IsTableOf c rows
    → IfOk r (λ t. t.items ≡ none_text look) → IfOk r (λ t. IsLookText look c bytes t.items)
look_none r look c bytes rows is none told = IfOk-weaker r _ _ (λ t e. record { rows = rows; is_table = is; shown = inr (none, e) }) told

pub verdict_holds : (c : Script) (bytes : List ℕ) (given listed : List (List (ℤ × List ℕ))) (b : Bool) → IsTablesText c given bytes → (IsTrue b ↔ AreAmong given listed)
    → ((rows : List (ℤ × List ℕ)) → IsTableOf c rows ↔ Among rows listed) → IsVerdict c bytes b
verdict_holds c bytes given listed b text are all = record {
  tables = given;
  text = text;
  holds = ((λ t rows m. (all rows).1 (are.0 t rows m)), (λ every. are.1 (λ rows m. (all rows).0 (every rows m))));
}

pub many_runs : {E : Type 0} (r : Result (Vec ℕ) E) (c : Script) (workers : ℕ) (times : Option ℕ) (n : ℕ) (json : Bool) (tables : List Table) → times ≡ Some n → AreRuns c workers tables → length tables ≡ unwrap_or times 1
    → IfOk r (λ text. (k : ℕ) → text.items ≡ runs_text (Some k) json c (map rows_of tables)) → IfOk r (λ text. IsRunsText c workers times json text.items)
many_runs r c workers times n json tables is are many told =
    IfOk-weaker r _ _ (λ t e. record { runs = tables; are = are; many = many; text_is = e n ∙ ap (λ (o : Option ℕ). runs_text o json c (map rows_of tables)) (sym is) }) told

-- ---- what is told of what was read

pub of_script_fault : (job : Job) (s : Option (List ℕ)) (ts : List Known) (bytes now : List ℕ) (e : ScriptFault) (p : Problem) → AreAll s bytes → now ≡ bytes → IsToldOfText now e → p ≡ of_script e → Explains job s ts p
of_script_fault job s ts bytes now ScriptFault.Memory p all is told same = rw same (inl tt)
of_script_fault job s ts bytes now (ScriptFault.Line line fault) p all is told same = rw same (inl (record { bytes = now; all = subst (AreAll s) (sym is) all; is_first = told }))

pub answered : (r : Result Reply Problem) (job : Job) (s : Option (List ℕ)) (ts : List Known) (bytes now : List ℕ) (c : Script) (given : List (List ℕ × List ℕ))
    → AreAll s bytes → now ≡ bytes → SaysScript now c → AreRead ts given → IfOk r (λ a. PrintsOf job c given a.status a.text.items) → IfOk r (λ a. CountsFor job c a.stats)
    → IfOk r (λ a. IsAnswer job s ts a.status a.text.items a.stats)
answered (Ok a) job s ts bytes now c given all is says are prints counts = record { says = c; reads = reads_of s bytes now c all is says; given = given; are_read = are; prints = prints; counts = counts }
answered (Err p) job s ts bytes now c given all is says are prints counts = tt

pub explained : (r : Result Reply Problem) (job : Job) (s : Option (List ℕ)) (ts : List Known) (bytes now : List ℕ) (c : Script) (given : List (List ℕ × List ℕ))
    → AreAll s bytes → now ≡ bytes → SaysScript now c → AreRead ts given → IfErr r (IsOfJob job c given) → IfErr r (Explains job s ts)
explained (Ok a) job s ts bytes now c given all is says are why = tt
explained (Err p) job s ts bytes now c given all is says are why = inr (record { says = c; reads = reads_of s bytes now c all is says; given = given; are_read = are; why = why })

no_output : (job : Job) (c : Script) (given : List (List ℕ × List ℕ)) → IsOfJob job c given Output → ⊥
no_output (Run workers turns times json) c given h = h
no_output (Outcomes stats explain limit progress json) c given h = h
no_output (History look limit progress) c given (inl h) = h
no_output (History look limit progress) c given (inr h) = h
no_output (Check limit progress json) c given (inl h) = h
no_output (Check limit progress json) c given (inr h) = h

pub ends_by : (job : Job) (s : Option (List ℕ)) (ts : List Known) (old new : Option (List ℕ)) (p : Problem) → Explains job s ts p → Keeps old new → EndsBy job s ts old new p
ends_by job s ts old new Output (inl h) kept = absurd h
ends_by job s ts old new Output (inr h) kept = absurd (no_output job h.says h.given h.why)
ends_by job s ts old new _ h kept = (h, kept)

-- the second of two cases, as another
pub right_as : {A B C : Type 0} → A ⊎ B → (B → C) → A ⊎ C
right_as (inl a) f = inl a
right_as (inr b) f = inr (f b)
