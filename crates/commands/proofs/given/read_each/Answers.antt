use Rattle.std.proofs.lemmas.List.{nil_from_length}
use Rattle.commands.proofs.Common.{refl, sym, ◌∙◌}
use Rattle.commands.proofs.Gone.{read_all_of, read_further}
use Rattle.commands.proofs.given.read_each.Goals as goal

pub loop-name-preserved : goal.loop-name-preserved
loop-name-preserved g c =
    read_further (λ t. (t.0.now, g.T.Read.remaining t.1)) c.args.tables.items c.loop-name.left.items c.pop.new.self.items (c.in-Some.name, c.in-Some.table) c.loop-name.given.items c.push.new.self.items (c.in-Some.name, c.in_ok-bytes.bytes)
    c.in-Some.ensures.items c.in_ok-push.ensures.items ((refl, c.in_ok-bytes.ensures.all), tt) c.loop-name.invariant

pub returns-clause-read : goal.returns-clause-read
returns-clause-read g c =
    read_all_of (λ t. (t.0.now, g.T.Read.remaining t.1)) c.args.tables.items c.loop-name.left.items c.loop-name.given.items _ (nil_from_length _ (sym (c.loop-name.left.ok.0) ∙ c.in_default.ensures.cases.0)) c.reverse.ensures.items c.loop-name.invariant
