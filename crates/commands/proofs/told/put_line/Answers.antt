use Rattle.commands.proofs.Common.{codes, err_from_is_err_and}
use Rattle.commands.proofs.Telling.{after_all, begun_some, err_some, some_longer, then_all, then_some}
use Rattle.commands.proofs.told.put_line.Goals as goal

pub returns-in_err-write_out-clause-begun : goal.returns-in_err-write_out-clause-begun
returns-in_err-write_out-clause-begun g c =
    let p = err_from_is_err_and c.from_residual.result c.from_residual.ensures.1 in
    rw (p.1) (some_longer _ _ c.args.line.now.lead.now _ (begun_some _ _ c.args.line.now.lead.now (rw c.as_bytes.ensures.value at c.in_err-write_out.ensures.beginning)))

pub returns-in_err-write_out-2-clause-begun : goal.returns-in_err-write_out-2-clause-begun
returns-in_err-write_out-2-clause-begun g c =
    let p = err_from_is_err_and c.from_residual-in_err-write_out-2.result c.from_residual-in_err-write_out-2.ensures.1 in
    let lead = rw c.as_bytes.ensures.value at c.in_ok-write_out.ensures.all in
    rw (p.1) (after_all _ _ _ c.args.line.now.lead.now _ lead (some_longer _ _ c.args.line.now.name.now _ (begun_some _ _ c.args.line.now.name.now (rw c.as_bytes-2.ensures.value at c.in_err-write_out-2.ensures.beginning))))

pub returns-in_err-write_out-3-clause-begun : goal.returns-in_err-write_out-3-clause-begun
returns-in_err-write_out-3-clause-begun g c =
    let p = err_from_is_err_and c.from_residual-in_err-write_out-3.result c.from_residual-in_err-write_out-3.ensures.1 in
    let lead = rw c.as_bytes.ensures.value at c.in_ok-write_out.ensures.all in
    let name = rw c.as_bytes-2.ensures.value at c.in_ok-write_out-2.ensures.all in
    rw (p.1) (after_all _ _ _ c.args.line.now.lead.now _ lead (after_all _ _ _ c.args.line.now.name.now _ name (some_longer _ _ c.args.line.now.mark.now _ (begun_some _ _ c.args.line.now.mark.now (rw c.as_bytes-3.ensures.value at c.in_err-write_out-3.ensures.beginning)))))

pub returns-in_err-write_out-4-clause-begun : goal.returns-in_err-write_out-4-clause-begun
returns-in_err-write_out-4-clause-begun g c =
    let p = err_from_is_err_and c.from_residual-in_err-write_out-4.result c.from_residual-in_err-write_out-4.ensures.1 in
    let lead = rw c.as_bytes.ensures.value at c.in_ok-write_out.ensures.all in
    let name = rw c.as_bytes-2.ensures.value at c.in_ok-write_out-2.ensures.all in
    let mark = rw c.as_bytes-3.ensures.value at c.in_ok-write_out-3.ensures.all in
    rw (p.1) (after_all _ _ _ c.args.line.now.lead.now _ lead (after_all _ _ _ c.args.line.now.name.now _ name (after_all _ _ _ c.args.line.now.mark.now _ mark (some_longer _ _ c.args.line.now.words.now _ (begun_some _ _ c.args.line.now.words.now (rw c.as_bytes-4.ensures.value at c.in_err-write_out-4.ensures.beginning))))))

pub returns-clause-all : goal.returns-clause-all
returns-clause-all g c =
    let lead = rw c.as_bytes.ensures.value at c.in_ok-write_out.ensures.all in
    let name = rw c.as_bytes-2.ensures.value at c.in_ok-write_out-2.ensures.all in
    let mark = rw c.as_bytes-3.ensures.value at c.in_ok-write_out-3.ensures.all in
    let words = rw c.as_bytes-4.ensures.value at c.in_ok-write_out-4.ensures.all in
    then_all c.write_out-5.result _ _ _ c.args.line.now.lead.now _ lead (then_all c.write_out-5.result _ _ _ c.args.line.now.name.now _ name (then_all c.write_out-5.result _ _ _ c.args.line.now.mark.now _ mark (then_all c.write_out-5.result _ _ _ c.args.line.now.words.now _ words c.write_out-5.ensures.all)))

pub returns-clause-begun : goal.returns-clause-begun
returns-clause-begun g c =
    let lead = rw c.as_bytes.ensures.value at c.in_ok-write_out.ensures.all in
    let name = rw c.as_bytes-2.ensures.value at c.in_ok-write_out-2.ensures.all in
    let mark = rw c.as_bytes-3.ensures.value at c.in_ok-write_out-3.ensures.all in
    let words = rw c.as_bytes-4.ensures.value at c.in_ok-write_out-4.ensures.all in
    then_some c.write_out-5.result (g.W.Write.contents c.args.out.now) (g.W.Write.contents c.write_out.new.out) (g.W.Write.contents c.write_out-5.new.out) c.args.line.now.lead.now _ lead (then_some c.write_out-5.result (g.W.Write.contents c.write_out.new.out) (g.W.Write.contents c.write_out-2.new.out) (g.W.Write.contents c.write_out-5.new.out) c.args.line.now.name.now _ name (then_some c.write_out-5.result (g.W.Write.contents c.write_out-2.new.out) (g.W.Write.contents c.write_out-3.new.out) (g.W.Write.contents c.write_out-5.new.out) c.args.line.now.mark.now _ mark (then_some c.write_out-5.result (g.W.Write.contents c.write_out-3.new.out) (g.W.Write.contents c.write_out-4.new.out) (g.W.Write.contents c.write_out-5.new.out) c.args.line.now.words.now _ words (err_some c.write_out-5.result (g.W.Write.contents c.write_out-4.new.out) (g.W.Write.contents c.write_out-5.new.out) (codes "\n") c.write_out-5.ensures.beginning))))
