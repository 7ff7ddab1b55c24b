use Rattle.clap.specs.Kinds.{HasKind}
use Rattle.command_line.proofs.Common.{App, [], ap, err_from_is_err_and, fault_of, is_simple, is_simple_and_free, map, subcommand_of, subst, ◌∙◌, ◌≡◌}
use Rattle.command_line.proofs.CommandLines.{ringrun_is_exact, ringrun_is_simple}
use Rattle.command_line.proofs.Words.{asks_for}
use Rattle.command_line.proofs.job.invocation_of.Goals as goal

pub returns-in_err-matches-clause-kinds : goal.returns-in_err-matches-clause-kinds
returns-in_err-matches-clause-kinds c =
    let app = c.in_ok-command.ensures.0 in
    let p = err_from_is_err_and c.from_residual-in_err-matches.result c.from_residual-in_err-matches.ensures.1 in
    rw (p.1, p.2) (subst (λ (a : App). HasKind (fault_of a (map (λ s. s.now) c.args.words.now)) c.in_err-matches.field-0.0) app (c.in_err-matches.ensures.kinds (ap is_simple_and_free app ∙ ringrun_is_exact)))

pub returns-clause-kinds : goal.returns-clause-kinds
returns-clause-kinds c =
    let app = c.in_ok-command.ensures.0 in
    subst (λ (a : App). fault_of a (map (λ s. s.now) c.args.words.now) ≡ []) app (c.in_ok-matches.ensures.kinds (ap is_simple_and_free app ∙ ringrun_is_exact))

pub returns-clause-asks : goal.returns-clause-asks
returns-clause-asks c =
    let app = c.in_ok-command.ensures.0 in
    let both = c.in_ok-matches.ensures.matches (ap is_simple app ∙ ringrun_is_simple) in
    asks_for c.in_ok-matches.matches _ c.in-Some.name.now _ _ (both.1 ∙ ap (λ (a : App). subcommand_of a (map (λ s. s.now) c.args.words.now)) app) c.in-Some.ensures.name c.in-Some.ensures.rows c.in_ok-asked.ensures.asks
