-- Writing one more value, field or expression of a list.
use Rattle.std.proofs.lemmas.List.{take_more}
use Rattle.std.proofs.lemmas.Grind.{put_two}
use Rattle.std.proofs.Math.Seq.{drop-cons}
use Rattle.std.specs.declared.fmt.Formatter.{Formatter}
use Rattle.std.specs.Fmt.{HasWritten, IsPlainFormatter}
use Rattle.std.specs.Cmp.{first_so, second_so}
use Rattle.std.proofs.Common.{add-one, get_or, length, take, drop, ◌+◌, ◌<◌, suc, ◌≡◌, ℕ, List, [], ◌∷◌, ◌++◌, Bool}
use Rattle.std.proofs.Common.{true, ◌&&◌, refl, sym, ap, ◌∙◌, append_assoc, codes, String, string_bytes}
use Rattle.std.specs.declared.alloc.Global.{Global}
use mathlib.Core.List.{append-nil}
use Rattle.cedar_terms.specs.ValueTree.{ValueTree, value_trees}
use Rattle.cedar_ids.specs.Escape.{is_ascii}
use Rattle.cedar_terms.specs.ValueTexts.{is_ascii_value, quoted, value_text, values_text, more_values_text, fields_text}
use Rattle.cedar_terms.specs.ValueTexts.{more_fields_text}
use Rattle.cedar_terms.specs.ValueViews.{field_trees}
use Rattle.cedar_terms.specs.ExprTree.{ExprTree, expr_trees}
use Rattle.cedar_terms.specs.ExprTexts.{expr_text, exprs_text, more_exprs_text}

-- The separator before the next element: empty before the first one.
abbrev pub mark_after : {A : Type 0} → List A → List ℕ
mark_after [] = []
mark_after (x ∷ xs) = codes ", "

more_values-push : (vs : List ValueTree) (v : ValueTree)
    → more_values_text (value_trees (vs ++ v ∷ [])) ≡ more_values_text (value_trees vs) ++ (codes ", " ++ value_text v)
more_values-push [] v = append-nil (codes ", " ++ value_text v)
more_values-push (w ∷ vs) v = ap (λ z. (codes ", " ++ value_text w) ++ z) (more_values-push vs v)
    ∙ sym (append_assoc (codes ", " ++ value_text w) (more_values_text (value_trees vs)) (codes ", " ++ value_text v))

pub values-push : (vs : List ValueTree) (v : ValueTree)
    → values_text (value_trees (vs ++ v ∷ [])) ≡ values_text (value_trees vs) ++ (mark_after vs ++ value_text v)
values-push [] v = append-nil (value_text v)
values-push (w ∷ vs) v = ap (λ z. value_text w ++ z) (more_values-push vs v)
    ∙ sym (append_assoc (value_text w) (more_values_text (value_trees vs)) (codes ", " ++ value_text v))

more_exprs-push : (es : List ExprTree) (e : ExprTree)
    → more_exprs_text (expr_trees (es ++ e ∷ [])) ≡ more_exprs_text (expr_trees es) ++ (codes ", " ++ expr_text e)
more_exprs-push [] e = append-nil (codes ", " ++ expr_text e)
more_exprs-push (d ∷ es) e = ap (λ z. (codes ", " ++ expr_text d) ++ z) (more_exprs-push es e)
    ∙ sym (append_assoc (codes ", " ++ expr_text d) (more_exprs_text (expr_trees es)) (codes ", " ++ expr_text e))

pub exprs-push : (es : List ExprTree) (e : ExprTree)
    → exprs_text (expr_trees (es ++ e ∷ [])) ≡ exprs_text (expr_trees es) ++ (mark_after es ++ expr_text e)
exprs-push [] e = append-nil (expr_text e)
exprs-push (d ∷ es) e = ap (λ z. expr_text d ++ z) (more_exprs-push es e)
    ∙ sym (append_assoc (expr_text d) (more_exprs_text (expr_trees es)) (codes ", " ++ expr_text e))

abbrev pub Entry : Type 0
Entry = String Global × ValueTree

abbrev pub field : String Global × ValueTree → List ℕ
field f = quoted (string_bytes f.0) ++ (codes ": " ++ value_text f.1)

more_fields-push : (fs : List (String Global × ValueTree)) (f : String Global × ValueTree)
    → more_fields_text (field_trees (fs ++ f ∷ [])) ≡ more_fields_text (field_trees fs) ++ (codes ", " ++ field f)
more_fields-push [] f = append-nil (codes ", " ++ field f)
more_fields-push (g ∷ fs) f = ap (λ z. (codes ", " ++ field g) ++ z) (more_fields-push fs f)
    ∙ sym (append_assoc (codes ", " ++ field g) (more_fields_text (field_trees fs)) (codes ", " ++ field f))

pub fields-push : (fs : List (String Global × ValueTree)) (f : String Global × ValueTree)
    → fields_text (field_trees (fs ++ f ∷ [])) ≡ fields_text (field_trees fs) ++ (mark_after fs ++ field f)
fields-push [] f = append-nil (field f)
fields-push (g ∷ fs) f = ap (λ z. field g ++ z) (more_fields-push fs f)
    ∙ sym (append_assoc (field g) (more_fields_text (field_trees fs)) (codes ", " ++ field f))

-- ---- One turn of a loop that writes a list: the written elements, the remaining elements, and the text so far

module _ {X W : Type 0} (took : W → List ℕ → W → Type 0) (text : List X → List ℕ) (piece : X → List ℕ)
    (push : (xs : List X) (x : X) → text (xs ++ x ∷ []) ≡ text xs ++ (mark_after xs ++ piece x))
    (ascii : List X → Bool) (one : X → Bool) (cons : (x : X) (xs : List X) → ascii (x ∷ xs) ≡ (one x && ascii xs)) where
  marked : (xs : List X) (x : X) → codes ", " ≡ mark_after (xs ++ x ∷ [])
  marked [] x = refl
  marked (y ∷ xs) x = refl

  pub joined_step : {A P : Type 0} (done done' rest rest' : List X) (x : X) (before : List ℕ) (f g h k : Formatter W)
      → rest ≡ x ∷ rest' → done' ≡ done ++ x ∷ [] → before ≡ mark_after done
      → (A → ascii rest ≡ true) → (A → P → HasWritten took f (text done) g)
      → (IsPlainFormatter g → HasWritten took g before h)
      → (one x ≡ true → IsPlainFormatter h → HasWritten took h (piece x) k)
      → (codes ", " ≡ mark_after done') × (A → ascii rest' ≡ true) × (A → P → HasWritten took f (text done') k)
  joined_step {A} {P} done done' rest rest' x before f g h k r d b plain written first second = (
    marked done x ∙ ap mark_after (sym d),
    λ a. second_so (one x) (ascii rest') (both a),
    λ a p.
        let w = written a p in
        let v = first w.plain in
        let u = second (first_so (one x) (ascii rest') (both a)) v.plain in
        put_two took f g k (text done) (before ++ piece x) (text done') w
        (put_two took g h k before (piece x) (before ++ piece x) v u refl) (ap (λ z. text done ++ (z ++ piece x)) b
        ∙ sym (push done x) ∙ ap text (sym d)),
  )
    where
      both : A → (one x && ascii rest') ≡ true
      both a = sym (cons x rest') ∙ ap ascii (sym r) ∙ plain a

-- The rest of a list from an index, in terms of the element at the index.
pub left_at : {X : Type 0} (xs : List X) (i : ℕ) (x : X) → i < length xs → x ≡ get_or xs i x
    → drop i xs ≡ x ∷ drop (i + 1) xs
left_at xs i x h e =
    drop-cons xs i x h ∙ (ap (λ z. z ∷ drop (suc i) xs) (sym e) ∙ ap (λ n. x ∷ drop n xs) (sym (add-one i)))

pub done_at : {X : Type 0} (xs : List X) (i : ℕ) (x : X) → i < length xs → x ≡ get_or xs i x
    → take (i + 1) xs ≡ take i xs ++ x ∷ []
done_at xs i x h e = take_more xs i x h ∙ ap (λ z. take i xs ++ z ∷ []) (sym e)

-- Whether all texts in a field are ASCII.
abbrev pub is_ascii_field : String Global × ValueTree → Bool
is_ascii_field f = is_ascii (string_bytes f.0) && is_ascii_value f.1

-- Writing a key with its separator, and then the value, writes a field.
pub field_written : {W : Type 0} (took : W → List ℕ → W → Type 0) (k : List ℕ) (v : ValueTree) (f g h : Formatter W)
    → (is_ascii k ≡ true → IsPlainFormatter f → HasWritten took f (quoted k ++ codes ": ") g)
    → (is_ascii_value v ≡ true → IsPlainFormatter g → HasWritten took g (value_text v) h)
    → (is_ascii k && is_ascii_value v) ≡ true → IsPlainFormatter f
    → HasWritten took f (quoted k ++ (codes ": " ++ value_text v)) h
field_written took k v f g h first second a p =
    let w = first (first_so (is_ascii k) (is_ascii_value v) a) p in
    let u = second (second_so (is_ascii k) (is_ascii_value v) a) w.plain in
    put_two took f g h (quoted k ++ codes ": ") (value_text v) (quoted k ++ (codes ": " ++ value_text v)) w u
    (append_assoc (quoted k) (codes ": ") (value_text v))
