-- The text of lists of bodies and policies.
use Rattle.std.specs.Prelude.{◌≡◌, ◌↔◌, ℕ, List, [], ◌∷◌, ◌++◌, Bool, true, false, ◌&&◌, refl, codes, IsTrue}
use Rattle.std.specs.declared.fmt.Formatter.{Formatter}
use Rattle.std.specs.Fmt.{HasWritten, IsPlainFormatter}
use Rattle.std.specs.List.{flat_map, list_all}
use Rattle.std.proofs.Common.{ap, ◌∙◌, sym}
use Rattle.std.proofs.lemmas.Bool.{false≢true}
use Rattle.std.proofs.lemmas.Grind.{flat_map-append, put_two}
use Rattle.std.proofs.lemmas.List.{append-nil}
use Rattle.cedar_body.specs.Bodies.{BodyParts}
use Rattle.cedar_policy.specs.Policies.{PolicyParts}
use Rattle.cedar_policy_set.specs.SetTexts.{orders_text, titled_text}
use Rattle.cedar_policy_maps.specs.PolicySets.{SetParts, empty_set}

pub both : (a b : Bool) → (a && b) ≡ true → (a ≡ true) × (b ≡ true)
both true b h = (refl, h)
both false b h = absurd (false≢true h)

-- The first text and the other texts.
pub first_then : {W X : Type 0} (took : W → List ℕ → W → Type 0) (known : X → Bool) (text : X → List ℕ) (line : X → List ℕ)
    (x : X) (xs : List X) (f g h : Formatter W) →
    (known x ≡ true → IsPlainFormatter f → HasWritten took f (text x) g) →
    (list_all known xs ≡ true → IsPlainFormatter g → HasWritten took g (flat_map line xs) h) →
    (known x && list_all known xs) ≡ true → IsPlainFormatter f →
    HasWritten took f (text x ++ flat_map line xs) h
first_then took known text line x xs f g h p q k plain =
    let b = both (known x) (list_all known xs) k in
    let one = p b.0 plain in
    put_two took f g h _ _ _ one (q b.1 one.plain) refl

-- Nothing is written.
pub nothing_written : {W : Type 0} (took : W → List ℕ → W → Type 0) (f : Formatter W) → IsPlainFormatter f
    → HasWritten took f [] f
nothing_written took f plain = record { wrote = record { parts = []; calls = refl; whole = refl }; plain = plain }

-- One more line.
pub line_more : {W X : Type 0} (took : W → List ℕ → W → Type 0) (line : X → List ℕ) (done : List X) (x : X) (f g h : Formatter W) →
    HasWritten took f (flat_map line done) g → HasWritten took g (line x) h → HasWritten took f (flat_map line (done ++ x ∷ [])) h
line_more took line done x f g h p q =
    put_two took f g h _ _ _ p q
    (sym (flat_map-append line done (x ∷ []) ∙ ap (λ t. flat_map line done ++ t) (append-nil (line x))))

-- The text of an empty set.
pub empty_text : (b : SetParts) (v : Bool) → (IsTrue v ↔ (b ≡ empty_set)) → v ≡ true
    → orders_text b.bodies b.policies ≡ codes "<empty policyset>"
empty_text b true h e = ap (λ (b : SetParts). orders_text b.bodies b.policies) (h.0 refl)
empty_text b false h e = absurd (false≢true e)

pub full_text : (b : SetParts) (v : Bool) → (IsTrue v ↔ (b ≡ empty_set)) → v ≡ false
    → orders_text b.bodies b.policies ≡ titled_text b.bodies b.policies
full_text b v h e = by b.bodies b.policies (λ q. absurd (false≢true (sym e ∙ h.1 q)))
  where
    by : (ts : List BodyParts) (ps : List PolicyParts) → (◌≡◌ {A = SetParts} (record { bodies = ts; policies = ps }) empty_set → ⊥) → orders_text ts ps ≡ titled_text ts ps
    by [] [] none = absurd (none refl)
    by [] (p ∷ ps) none = refl
    by (t ∷ ts) [] none = refl
    by (t ∷ ts) (p ∷ ps) none = refl
