use Rattle.std.proofs.Common.{◌≡◌, ◌∙◌, sym, codes}
use Rattle.std.proofs.lemmas.Bool.{false≢true}
use Rattle.std.specs.Cmp.Lexicographic.{bytes_decides}
use Rattle.cedar_entity_lines.specs.laws.ReadCommands.{not_ent, not_anc, not_remove, not_slice}
use Rattle.cedar_entity_lines.proofs.Commands.{no_fields_seen, no_such_fields}
use Rattle.cedar_entity_lines.proofs.command.read_entity_command.Goals as goal

pub returns-in_default : goal.returns-in_default
returns-in_default c = no_fields_seen c.args.fields.now c.in_default.ensures.cases

pub returns-in-None : goal.returns-in-None
returns-in-None c d =
    let word : c.in-Some.word.now.now ≡ codes "ent" = (bytes_decides _ _).0 (sym c.eq.ensures ∙ c.if-eq.true) in
    rw c.in-Some.ensures.cases.0
    (not_ent c.in-Some.word.now.now _ word (rw c.in-None.is at c.in_ok-ent_fields.ensures) d)

pub returns-in-None-2 : goal.returns-in-None-2
returns-in-None-2 c d =
    let word : c.in-Some.word.now.now ≡ codes "anc" = (bytes_decides _ _).0 (sym c.eq-2.ensures ∙ c.if-eq-2.true) in
    rw c.in-Some.ensures.cases.0
    (not_anc c.in-Some.word.now.now _ word (rw c.in-None-2.is at c.in_ok-anc_fields.ensures) d)

pub returns-in-None-3 : goal.returns-in-None-3
returns-in-None-3 c d =
    let word : c.in-Some.word.now.now ≡ codes "remove" = (bytes_decides _ _).0 (sym c.eq-3.ensures ∙ c.if-eq-3.true) in
    rw c.in-Some.ensures.cases.0
    (not_remove c.in-Some.word.now.now _ word (rw c.in-None-3.is at c.in_ok-some_fields.ensures) d)

pub returns-in-None-4 : goal.returns-in-None-4
returns-in-None-4 c d =
    let word : c.in-Some.word.now.now ≡ codes "slice" = (bytes_decides _ _).0 (sym c.eq-4.ensures ∙ c.if-eq-4.true) in
    rw c.in-Some.ensures.cases.0
    (not_slice c.in-Some.word.now.now _ word (rw c.in-None-4.is at c.in_ok-some_fields-2.ensures) d)

pub returns-then-not-is_empty : goal.returns-then-not-is_empty
returns-then-not-is_empty c =
    rw c.in-Some.ensures.cases.0
    (no_such_fields c.in-Some.word.now.now c.in-Some.rest.now c.is_empty.result c.is_empty.ensures
    c.if-not-is_empty.true
    (λ e. false≢true (sym c.if-eq.false ∙ c.eq.ensures ∙ (bytes_decides _ _).1 e))
    (λ e. false≢true (sym c.if-eq-3.false ∙ c.eq-3.ensures ∙ (bytes_decides _ _).1 e))
    (λ e. false≢true (sym c.if-eq-4.false ∙ c.eq-4.ensures ∙ (bytes_decides _ _).1 e))
    (λ e. false≢true (sym c.if-eq-2.false ∙ c.eq-2.ensures ∙ (bytes_decides _ _).1 e)))
