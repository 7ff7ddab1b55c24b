use Rattle.std.proofs.Common.{◌++◌, ◌∙◌, ap, [], take, zero, suc, refl, sym, subst, rules, append-nil, List, ℕ}
use Rattle.std.specs.Io.KnownBytes.{Appends}
use Rattle.std.proofs.KnownBytes.{Appends-trans}
use Rattle.std.proofs.lemmas.List.{take_rest}
use Rattle.std.proofs.lemmas.Result.{err_from_is_err_and}
use Rattle.streams.specs.Calls.{WroteBy}
use Rattle.streams.proofs.WrittenOut.{split_further, AppendsBeginning-at_fault, none_left}
use Rattle.streams.proofs.output.write_out.Goals as goal

pub loop-rest-init : goal.loop-rest-init
loop-rest-init g c = record { went = ([], refl, search rules); course = (zero, (refl, refl)) }

pub returns-in_err-count-clause-beginning : goal.returns-in_err-count-clause-beginning
returns-in_err-count-clause-beginning g c =
    let (done, split, gone) = c.loop-rest.invariant.went in
    let p = err_from_is_err_and c.from_residual.result c.from_residual.ensures.1 in
    rw (p.1) (AppendsBeginning-at_fault _ _ _ _ done c.loop-rest.rest.now split (search rules) gone c.in_err-count.ensures.unchanged)

pub returns-in_err-count-clause-told : goal.returns-in_err-count-clause-told
returns-in_err-count-clause-told g c =
    let (n, wrote) = c.loop-rest.invariant.course in
    let p = err_from_is_err_and c.from_residual.result c.from_residual.ensures.1 in
    rw (p.1, p.2) (record { count = n; left = c.loop-rest.rest.now; before = c.loop-rest.out; wrote = wrote; some = search rules; told = c.in_err-count.ensures.told })

pub loop-rest-preserved : goal.loop-rest-preserved
loop-rest-preserved g c =
    let (done, split, gone) = c.loop-rest.invariant.went in
    let (m, wrote) = c.loop-rest.invariant.course in
    let rest = c.loop-rest.rest.now in
    let n = c.in_ok-count.count in
    record {
      went = (done ++ take n rest, split_further _ done rest n split, Appends-trans _ _ _ _ _ gone c.in_ok-count.ensures.front);
      course = (suc m, (rest, c.loop-rest.out, wrote, record { count = n; some = c.in_ok-count.ensures.some.0; gave = c.in_ok-count.ensures.gave; rest_is = take_rest rest n }));
    }

pub returns-clause-all : goal.returns-clause-all
returns-clause-all g c =
    let (done, split, gone) = c.loop-rest.invariant.went in
    subst (Appends (g.W.Sink.contents c.args.out.now) (g.W.Sink.contents c.loop-rest.out)) (sym (split ∙ ap (λ (l : List ℕ). done ++ l) (none_left c.loop-rest.rest.now (search rules)) ∙ append-nil done)) gone

pub returns-clause-course : goal.returns-clause-course
returns-clause-course g c =
    let (n, wrote) = c.loop-rest.invariant.course in
    (n, subst (λ (l : List ℕ). WroteBy g.W.Sink.gives n c.args.bytes.now c.args.out.now l c.loop-rest.out) (none_left c.loop-rest.rest.now (search rules)) wrote)
