-- The program's commands, as clap reads them.
use Rattle.std.specs.Prelude.{Some}
use Rattle.clap.specs.declared.builder.arg.Arg.{Arg}
use Rattle.clap.specs.Simple.{app_of_fields}
use Rattle.clap.specs.declared.builder.command.Command.{Command}
use Rattle.clap.specs.declared.builder.command.Command.TheOpen.{Command-F}
use Rattle.clap.specs.declared.builder.command.Command.TheViews.{out-Command}
use Rattle.clap.proofs.OnLiterals.{clap_on_literals}
use Rattle.command_line.proofs.Common.{AddsArg, AddsSubcommand, App, Bor, IsApp, IsRead, Rule, Text, ap, ap₂, is_simple, is_simple_and_free, refl, ringrun, true, with_rule, with_subcommand, ◌∙◌, ◌≡◌}

-- one command more
pub adds_command : (old sub new : Command) (a b : App) → IsApp old a → IsApp sub b → AddsSubcommand old sub new → IsApp new (with_subcommand a b.top)
adds_command old sub new a b above below it = (it.shape below.1 ∙ ap₂ with_subcommand above.0 (ap (λ (x : App). x.top) below.0), it.globals ∙ rw (above.1, below.1) refl)

-- one word more
pub adds_word : (old : Command) (x : Arg) (new : Command) (a : App) (r : Rule) → IsApp old a → IsRead x r → AddsArg old x new → IsApp new (with_rule a r)
adds_word old x new a r is read it = (it.shape read.1 ∙ ap₂ with_rule is.0 read.0, it.globals ∙ rw (is.1, read.1) refl)

-- a command's name with its texts
pub explains : (bare about help : Command) (text example : Bor Text) (a : App)
    → out-Command about ≡ record (out-Command bare) { about = Some text } → out-Command help ≡ record (out-Command about) { after_help = Some example } → IsApp bare a → IsApp help a
explains bare about help text example a first second is =
    let fields : out-Command help ≡ record (out-Command bare) { about = Some text; after_help = Some example } =
    second ∙ ap (λ (f : Command-F Command). record f { after_help = Some example }) first in
    (ap app_of_fields fields ∙ is.0, ap (λ (f : Command-F Command). f.has_globals) fields ∙ is.1)

-- and a longer one
pub explains_more : (bare about long help : Command) (text more example : Bor Text) (a : App)
    → out-Command about ≡ record (out-Command bare) { about = Some text } → out-Command long ≡ record (out-Command about) { long_about = Some more }
    → out-Command help ≡ record (out-Command long) { after_help = Some example } → IsApp bare a → IsApp help a
explains_more bare about long help text more example a first second third is =
    let fields : out-Command help ≡ record (out-Command bare) { about = Some text; long_about = Some more; after_help = Some example } =
    third ∙ ap (λ (f : Command-F Command). record f { after_help = Some example }) (second ∙ ap (λ (f : Command-F Command). record f { long_about = Some more }) first) in
    (ap app_of_fields fields ∙ is.0, ap (λ (f : Command-F Command). f.has_globals) fields ∙ is.1)

abbrev pub settled : App → App
settled a = record a { top = record (a.top) { has_version = true; subcommand_required = true; arg_required_else_help = true } }

-- the program's name with its texts and settings
pub settles : (bare version about help required last : Command) (number text example : Bor Text) (a : App)
    → out-Command version ≡ record (out-Command bare) { version = Some number } → out-Command about ≡ record (out-Command version) { about = Some text }
    → out-Command help ≡ record (out-Command about) { after_help = Some example } → out-Command required ≡ record (out-Command help) { subcommand_required = true }
    → out-Command last ≡ record (out-Command required) { arg_required_else_help = true } → IsApp bare a → IsApp last (settled a)
settles bare version about help required last number text example a first second third fourth fifth is =
    let fields : out-Command last ≡ record (out-Command bare) { version = Some number; about = Some text; after_help = Some example; subcommand_required = true; arg_required_else_help = true } =
    fifth ∙ ap (λ (f : Command-F Command). record f { arg_required_else_help = true })
    (fourth ∙ ap (λ (f : Command-F Command). record f { subcommand_required = true })
    (third ∙ ap (λ (f : Command-F Command). record f { after_help = Some example })
    (second ∙ ap (λ (f : Command-F Command). record f { about = Some text }) first))) in
    (ap app_of_fields fields ∙ ap settled is.0, ap (λ (f : Command-F Command). f.has_globals) fields ∙ is.1)

-- each word of the program's is one of which clap gives the matches, and the faults, exactly
pub ringrun_is_exact : is_simple_and_free ringrun ≡ true
unfolding clap_on_literals
ringrun_is_exact = refl

pub ringrun_is_simple : is_simple ringrun ≡ true
unfolding clap_on_literals
ringrun_is_simple = refl
