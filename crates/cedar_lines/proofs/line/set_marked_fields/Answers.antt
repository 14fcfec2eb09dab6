use Rattle.std.proofs.Common.{ℕ, ◌==◌, ◌++◌, ◌∷◌, [], List, length, map, ap, sym, ◌∙◌, arith, Bor}
use Rattle.std.specs.List.{slice_split}
use Rattle.std.proofs.lemmas.List.{map-append}
use Rattle.cedar_lines.specs.laws.Fields.{HasNoTabIn, last_field}
use Rattle.cedar_lines.proofs.line.set_marked_fields.Goals as goal

pub returns : goal.returns
returns c =
    let line : List ℕ = c.args.line.now in
    let begun : HasNoTabIn line c.in_ok-rest.rest (length line) =
    λ k low high. c.in_ok-rest.ensures.begun.1 k low (omega arith) in
    let field = last_field line c.in_ok-rest.rest (omega (arith, c.in_ok-rest.ensures.begun.0)) begun in
    let before = map {A = Bor (List ℕ)} {B = List ℕ} (λ f. f.now) c.push_fields.new.fields.items in
    ap (map {A = Bor (List ℕ)} {B = List ℕ} (λ f. f.now)) c.in_ok-push.ensures.items
    ∙ map-append {A = Bor (List ℕ)} {B = List ℕ} (λ f. f.now) c.push_fields.new.fields.items (c.range_from.result ∷ [])
    ∙ ap (λ f. before ++ f ∷ []) c.range_from.ensures.value
    ∙ ap (λ fs. before ++ fs) (sym field)
    ∙ c.in_ok-rest.ensures.fields
    ∙ ap (λ fs. map {A = Bor (List ℕ)} {B = List ℕ} (λ f. f.now) fs ++ slice_split {X = ℕ} (λ b. b == 9) line) c.clear.ensures.items
