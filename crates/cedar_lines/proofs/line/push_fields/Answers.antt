use Rattle.std.proofs.Common.{◌≡◌, ◌==◌, ℕ, ◌+◌, ◌++◌, ◌∷◌, [], List, map, drop, ap, sym, ◌∙◌, arith, append_assoc, Bor}
use Rattle.std.specs.List.{slice_split}
use Rattle.std.proofs.lemmas.List.{map-append}
use Rattle.cedar_lines.specs.laws.Fields.{next_field}
use Rattle.cedar_lines.proofs.Marks.{HasNoTabIn-lowest, MarksTabsFrom-next}
use Rattle.cedar_lines.proofs.line.push_fields.Goals as goal

one_more : {X Y : Type 0} (f : X → Y) (xs : List X) (x : X) (ys : List Y)
    → map f (xs ++ x ∷ []) ++ ys ≡ map f xs ++ f x ∷ ys
one_more f xs x ys = ap (λ zs. zs ++ ys) (map-append f xs (x ∷ [])) ∙ append_assoc (map f xs) (f x ∷ []) ys

pub loop-tabs-preserved : goal.loop-tabs-preserved
loop-tabs-preserved c =
    let line : List ℕ = c.args.line.now in
    let bit : ℕ = c.lowest_bit-bit.result in
    let tab : ℕ = c.args.from + bit in
    let left = c.loop-tabs.invariant.left in
    let is_lowest = c.lowest_bit-bit.ensures in
    let there = left.only bit is_lowest.set in
    let none = HasNoTabIn-lowest line _ _ _ _ bit left is_lowest.set is_lowest.below in
    let field = next_field line c.loop-tabs.next tab there.0 (omega (arith, there.1)) there.2 none in
    let before = map {A = Bor (List ℕ)} {B = List ℕ} (λ f. f.now) c.loop-tabs.fields.items in
    let after = slice_split {X = ℕ} (λ b. b == 9) (drop (tab + 1) line) in
    record {
      ordered = omega (arith, there.1);
      left = MarksTabsFrom-next line _ _ _ _ bit _ (omega arith) left is_lowest.set is_lowest.below
          c.without_bit-tabs.ensures.kept c.without_bit-tabs.ensures.no_more;
      cut = ap (λ items. map {A = Bor (List ℕ)} {B = List ℕ} (λ f. f.now) items ++ after) c.in_ok-push.ensures.items
          ∙ one_more {X = Bor (List ℕ)} {Y = List ℕ} (λ f. f.now) c.loop-tabs.fields.items c.range.result after
          ∙ ap (λ f. before ++ f ∷ after) c.range.ensures.value
          ∙ ap (λ fs. before ++ fs) (sym field)
          ∙ c.loop-tabs.invariant.cut;
    }
