use Rattle.std.proofs.Common.{◌∙◌, sym}
use Rattle.std.proofs.lemmas.Bool.{false≢true}
use Rattle.std.specs.Cmp.Lexicographic.{bytes_decides}
use Rattle.cedar_entity_lines.specs.laws.ReadCommands.{not_word}
use Rattle.cedar_entity_lines.proofs.command.command_of_word.Goals as goal

pub returns : goal.returns
returns c = not_word c.args.word.now
    (λ e. false≢true (sym c.if-eq.false ∙ c.eq.ensures ∙ (bytes_decides _ _).1 e))
    (λ e. false≢true (sym c.if-eq-2.false ∙ c.eq-2.ensures ∙ (bytes_decides _ _).1 e))
    (λ e. false≢true (sym c.if-eq-3.false ∙ c.eq-3.ensures ∙ (bytes_decides _ _).1 e))
