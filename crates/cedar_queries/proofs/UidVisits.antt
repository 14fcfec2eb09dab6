-- The visit of one uid, and the edges that are visited with one more uid.
use Rattle.std.specs.Prelude.{◌≡◌, ◌↔◌, Bool, true, false, cond, not, ◌&&◌, ◌||◌, List, [], ◌∷◌, Option, Some, None, is_some}
use Rattle.std.specs.Prelude.{ℕ, zero, suc, ◌<◌, length}
use Rattle.std.proofs.Common.{ap, sym, refl, ◌∙◌, subst, arith}
use Rattle.std.proofs.lemmas.Bool.{false≢true, and_parts, and_from}
use Rattle.std.specs.Set.{is_member}
use Rattle.cedar_ids.specs.UidOf.{same_uid}
use Rattle.cedar_ids.specs.laws.UidOfLaws.{same_uid_decides}
use Rattle.cedar_ids.specs.declared.entity.EntityUID.{EntityUID}
use Rattle.cedar_queries.specs.laws.Searches.{Visits}
use Rattle.cedar_queries.proofs.UidLists.{or_off}

off_itself : (b : Bool) → false ≡ (not b && b)
off_itself true = refl
off_itself false = refl

-- The visit of a uid that was found before.
pub visit_again : (f : EntityUID → Option EntityUID) (n : EntityUID → Bool) (child parent : EntityUID)
    → is_some (f parent) ≡ true → Visits (λ a b. same_uid child a && same_uid parent b) f f n n
visit_again f n child parent found = record {
  stays = λ v u h. h;
  new = λ v u h k. absurd (false≢true (ap is_some (sym h ∙ k)));
  finds =
      λ u v h. let p = and_parts (same_uid child u) (same_uid parent v) h in
      subst (λ x. is_some (f x) ≡ true) ((same_uid_decides parent v).0 p.1) found;
  adds = λ v. sym (or_off (n v)) ∙ ap (λ b. n v || b) (off_itself (is_some (f v)));
}

module _ (f g : EntityUID → Option EntityUID) (n m : EntityUID → Bool) (child parent : EntityUID)
    (absent : is_some (f parent) ≡ false) (puts : (q : EntityUID) → g q ≡ cond (same_uid parent q) (Some child) (f q))
    (more : (q : EntityUID) → m q ≡ (n q || same_uid parent q)) where
  stays_at : (b : Bool) (v u : EntityUID) → same_uid parent v ≡ b → f v ≡ Some u → g v ≡ Some u
  stays_at false v u is h = puts v ∙ ap (λ b. cond b (Some child) (f v)) is ∙ h
  stays_at true v u is h =
      absurd (false≢true (sym absent ∙ ap (λ x. is_some (f x)) ((same_uid_decides parent v).0 is) ∙ ap is_some h))

  new_at : (b : Bool) (v u : EntityUID) → same_uid parent v ≡ b → f v ≡ None → g v ≡ Some u
      → (same_uid child u && same_uid parent v) ≡ true
  new_at false v u is h k =
      absurd (false≢true (ap is_some (sym h ∙ sym (ap (λ b. cond b (Some child) (f v)) is) ∙ sym (puts v) ∙ k)))
  new_at true v u is h k =
      let e : Some child ≡ Some u = sym (ap (λ b. cond b (Some child) (f v)) is) ∙ sym (puts v) ∙ k in
      and_from (same_uid child u) (same_uid parent v) ((same_uid_decides child u).1 cc) is

  adds_at : (b : Bool) (v : EntityUID) → same_uid parent v ≡ b
      → same_uid parent v ≡ (not (is_some (f v)) && is_some (g v))
  adds_at true v is =
      is
      ∙ ap (λ b. not b && true) (sym absent ∙ ap (λ x. is_some (f x)) ((same_uid_decides parent v).0 is))
      ∙ ap (λ o. not (is_some (f v)) && is_some o) (sym (puts v ∙ ap (λ b. cond b (Some child) (f v)) is))
  adds_at false v is =
      is ∙ off_itself (is_some (f v))
      ∙ ap (λ o. not (is_some (f v)) && is_some o) (sym (puts v ∙ ap (λ b. cond b (Some child) (f v)) is))

  -- The visit of a new uid.
  pub visit_new : Visits (λ a b. same_uid child a && same_uid parent b) f g n m
  visit_new = record {
    stays = λ v u h. stays_at (same_uid parent v) v u refl h;
    new = λ v u h k. new_at (same_uid parent v) v u refl h k;
    finds =
        λ u v h. let p = and_parts (same_uid child u) (same_uid parent v) h in
        ap is_some (puts v ∙ ap (λ b. cond b (Some child) (f v)) p.1);
    adds = λ v. more v ∙ ap (λ b. n v || b) (adds_at (same_uid parent v) v refl);
  }

and_off : (b : Bool) → (b && false) ≡ false
and_off true = refl
and_off false = refl

-- An edge that the search does not follow changes nothing.
pub edges_skip : (s m t c : Bool) → (t ≡ true → c ≡ false) → (s && (m && c)) ≡ (s && ((m || t) && c))
edges_skip s m false c h = ap (λ b. s && (b && c)) (sym (or_off m))
edges_skip s m true c h =
    ap (λ b. s && (m && b)) (h refl) ∙ ap (λ b. s && b) (and_off m ∙ sym (and_off (m || true)))
    ∙ ap (λ b. s && ((m || true) && b)) (sym (h refl))

one_more : (s m : Bool) → ((s && (m && true)) || (s && true)) ≡ (s && ((m || true) && true))
one_more true true = refl
one_more true false = refl
one_more false m = refl

-- One more edge that the search follows.
pub edges_more : (s m t c : Bool) → (t ≡ true → c ≡ true) → ((s && (m && c)) || (s && t)) ≡ (s && ((m || t) && c))
edges_more s m false c h =
    ap (λ b. (s && (m && c)) || b) (and_off s) ∙ or_off (s && (m && c)) ∙ ap (λ b. s && (b && c)) (sym (or_off m))
edges_more s m true c h =
    ap (λ b. (s && (m && b)) || (s && true)) (h refl) ∙ one_more s m ∙ ap (λ b. s && ((m || true) && b)) (sym (h refl))

-- The edges from one more uid.
pub edges_from : (m s e : Bool) → ((m && e) || (s && e)) ≡ ((m || s) && e)
edges_from true true true = refl
edges_from true true false = refl
edges_from true false e = or_off e
edges_from false s e = refl

-- The edges from the uids of a layer.
pub layer_edges : (G : EntityUID → EntityUID → Bool) (layer : EntityUID → Bool) (a b : EntityUID)
    → ((layer a && G a b) ≡ true) ↔ ((layer a ≡ true) × (G a b ≡ true))
layer_edges G layer a b = (and_parts (layer a) (G a b), λ p. and_from (layer a) (G a b) p.0 p.1)

-- The edges from the first uid.
pub first_edges : (G : EntityUID → EntityUID → Bool) (from : EntityUID) (us : List EntityUID) → us ≡ from ∷ []
    → (a b : EntityUID) → ((is_member same_uid us a && G a b) ≡ true) ↔ ((from ≡ a) × (G a b ≡ true))
first_edges G from us is a b = (
  λ h. let p = and_parts (is_member same_uid us a) (G a b) h in
      let one : same_uid a from ≡ true =
      sym (or_off (same_uid a from)) ∙ ap (λ l. is_member same_uid l a) (sym is) ∙ p.0 in
      (sym ((same_uid_decides a from).0 one), p.1),
  λ e. and_from (is_member same_uid us a) (G a b)
      (ap (λ l. is_member same_uid l a) is ∙ or_off (same_uid a from) ∙ (same_uid_decides a from).1 (sym e.0)) e.1,
)

-- An empty layer has no member.
pub no_member : (us : List EntityUID) → length us ≡ 0 → (v : EntityUID) → is_member same_uid us v ≡ false
no_member [] e v = refl
no_member (u ∷ us) e v = absurd (omega arith)

pub positive : (n : ℕ) → (n ≡ 0 → ⊥) → 0 < n
positive zero h = absurd (h refl)
positive (suc n) h = omega arith

-- What is tested only where the first test passes.
pub if_first : (s x y : Bool) → (s ≡ true → x ≡ y) → (s && x) ≡ (s && y)
if_first true x y h = h refl
if_first false x y h = refl
