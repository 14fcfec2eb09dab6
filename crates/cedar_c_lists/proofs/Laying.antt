-- Texts that are written one after another, and read back by their spans.
use Rattle.std.proofs.Common.{◌≡◌, ap, sym, refl, ◌∙◌, ◌++◌, ◌+◌, ◌-◌, ℕ, List, [], ◌∷◌, length, map, take, drop, arith}
use Rattle.std.proofs.Math.Seq.{drop-append_seam, take-append_seam}
use Rattle.std.proofs.lemmas.List.{append-nil, length-append}
use Rattle.std.proofs.lemmas.List.Folds.{concat-append}
use Rattle.std.specs.List.{concat}
use Rattle.cedar_c_lists.specs.Answers.{AreConcatenated, part, spans_from, texts_in}
use Rattle.cedar_c_lists.specs.declared.layout.Span.{Span}

append_assoc : {A : Type 0} (xs ys zs : List A) → (xs ++ ys) ++ zs ≡ xs ++ (ys ++ zs)
append_assoc [] ys zs = refl
append_assoc (x ∷ xs) ys zs = ap (λ l. x ∷ l) (append_assoc xs ys zs)

minus_plus : (n m : ℕ) → (n + m) - n ≡ m
minus_plus n m = omega arith

plus_assoc : (a b c : ℕ) → a + b + c ≡ a + (b + c)
plus_assoc a b c = omega arith

zero_plus : (n : ℕ) → n ≡ 0 + n
zero_plus n = omega arith

-- The span of a text after some bytes has that text.
part_behind : (pre t rest : List ℕ)
    → part (pre ++ (t ++ rest)) (record { start = length pre; end = length pre + length t }) ≡ t
part_behind pre t rest =
    ap (λ n. take n (drop (length pre) (pre ++ (t ++ rest)))) (minus_plus (length pre) (length t))
    ∙ ap (take (length t)) (drop-append_seam pre (t ++ rest))
    ∙ take-append_seam t rest

-- Texts after some bytes are read back.
read_behind : (pre : List ℕ) (ts : List (List ℕ)) → texts_in (pre ++ concat ts) (spans_from (length pre) ts) ≡ ts
read_behind pre [] = refl
read_behind pre (t ∷ ts) =
    ap (λ x. x ∷ texts_in (pre ++ (t ++ concat ts)) (spans_from (length pre + length t) ts))
    (part_behind pre t (concat ts))
    ∙ ap (λ l. t ∷ l) (
    ap (λ n. texts_in (pre ++ (t ++ concat ts)) (spans_from n ts)) (sym (length-append pre t))
    ∙ ap (λ bs. texts_in bs (spans_from (length (pre ++ t)) ts)) (sym (append_assoc pre t (concat ts)))
    ∙ read_behind (pre ++ t) ts)

-- Encoded texts are read back.
pub read_back : (bytes : List ℕ) (spans : List Span) (ts : List (List ℕ)) → AreConcatenated bytes spans ts
    → texts_in bytes spans ≡ ts
read_back bytes spans ts l = ap (λ bs. texts_in bs spans) l.0 ∙ ap (texts_in (concat ts)) l.1 ∙ read_behind [] ts

-- The spans of texts with one more text.
spans_more : (k : ℕ) (ts : List (List ℕ)) (t : List ℕ)
    → spans_from k (ts ++ t ∷ []) ≡ spans_from k ts
    ++ record { start = k + length (concat ts); end = k + length (concat ts) + length t } ∷ []
spans_more k [] t = ap (λ n. record { start = n; end = n + length t } ∷ []) (omega arith)
spans_more k (u ∷ ts) t =
    ap (λ l. record { start = k; end = k + length u } ∷ l) (
    spans_more (k + length u) ts t
    ∙ ap (λ n. spans_from (k + length u) ts ++ record { start = n; end = n + length t } ∷ [])
    (plus_assoc k (length u) (length (concat ts)) ∙ ap (λ n. k + n) (sym (length-append u (concat ts)))))

-- The encoding of one more text.
pub laid_more : (bytes : List ℕ) (spans : List Span) (ts : List (List ℕ)) (t : List ℕ) → AreConcatenated bytes spans ts →
    AreConcatenated (bytes ++ t) (spans ++ record { start = length bytes; end = length (bytes ++ t) } ∷ []) (ts ++ t ∷ [])
laid_more bytes spans ts t l = (
  ap (λ bs. bs ++ t) l.0 ∙ ap (λ bs. concat ts ++ bs) (sym (append-nil t)) ∙ sym (concat-append ts (t ∷ [])),
  ap (λ n. spans ++ record { start = length bytes; end = n } ∷ []) (length-append bytes t)
      ∙ ap (λ ss. ss ++ record { start = length bytes; end = length bytes + length t } ∷ []) l.1
      ∙ ap (λ n. spans_from 0 ts ++ record { start = n; end = n + length t } ∷ []) (ap length l.0
      ∙ zero_plus (length (concat ts)))
      ∙ sym (spans_more 0 ts t),
)

-- One more text is read back after the others.
pub read_more : (bytes : List ℕ) (spans : List Span) (t : List ℕ) → AreConcatenated bytes spans (texts_in bytes spans) →
    texts_in (bytes ++ t) (spans ++ record { start = length bytes; end = length (bytes ++ t) } ∷ [])
    ≡ texts_in bytes spans ++ t ∷ []
read_more bytes spans t l = read_back _ _ _ (laid_more bytes spans (texts_in bytes spans) t l)

-- The bytes and spans with one more text are its encoding.
pub laid_with : (bytes bytes' t : List ℕ) (spans spans' : List Span) (start end : ℕ)
    → AreConcatenated bytes spans (texts_in bytes spans) →
    start ≡ length bytes → bytes' ≡ bytes ++ t → end ≡ length bytes'
    → spans' ≡ spans ++ record { start = start; end = end } ∷ [] →
    (texts_in bytes' spans' ≡ texts_in bytes spans ++ t ∷ []) × AreConcatenated bytes' spans' (texts_in bytes' spans')
laid_with bytes bytes' t spans spans' start end l from grown to longer =
    let places : spans' ≡ spans ++ record { start = length bytes; end = length (bytes ++ t) } ∷ [] =
    longer ∙ ap (λ n. spans ++ record { start = n; end = end } ∷ []) from
    ∙ ap (λ n. spans ++ record { start = length bytes; end = n } ∷ []) (to ∙ ap length grown) in
    let text : texts_in bytes' spans' ≡ texts_in bytes spans ++ t ∷ [] = ap (λ bs. texts_in bs spans') grown
    ∙ ap (texts_in (bytes ++ t)) places ∙ read_more bytes spans t l in (
      text,
      (
        grown ∙ (laid_more bytes spans (texts_in bytes spans) t l).0 ∙ ap concat (sym text),
        places ∙ (laid_more bytes spans (texts_in bytes spans) t l).1 ∙ ap (spans_from 0) (sym text),
      ),
    )
