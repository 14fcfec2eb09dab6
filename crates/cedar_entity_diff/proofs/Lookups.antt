-- The values at the uids of a list, with one more uid.
use Rattle.std.specs.Prelude.{◌≡◌, ◌<◌, ◌+◌, ℕ, List, [], ◌∷◌, ◌++◌, length, take, filter_map, option_to_list, Option, Some, None}
use Rattle.std.proofs.Common.{ap, sym, refl, ◌∙◌, get_or}
use Rattle.std.proofs.lemmas.List.{take_more}
use Rattle.std.proofs.lemmas.List.Elements.{filter_map-append}
use Rattle.std.specs.List.{cons_option}

last_found : {X : Type 0} (o : Option X) → cons_option o [] ≡ option_to_list o
last_found None = refl
last_found (Some x) = refl

-- The values at the first i + 1 keys of a list.
pub found_more : {K X : Type 0} (f : K → Option X) (ks : List K) (i : ℕ) (k : K) → i < length ks → k ≡ get_or ks i k
    → filter_map f (take (i + 1) ks) ≡ filter_map f (take i ks) ++ option_to_list (f k)
found_more f ks i k within is =
    ap (filter_map f) (take_more ks i k within)
    ∙ filter_map-append f (take i ks) (get_or ks i k ∷ [])
    ∙ ap (λ l. filter_map f (take i ks) ++ l) (ap (λ x. filter_map f (x ∷ [])) (sym is) ∙ last_found (f k))
