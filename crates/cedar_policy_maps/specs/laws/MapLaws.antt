-- Changes of the three maps: additions, removals, and maps created from lists.
use Rattle.std.specs.Prelude.{◌≡◌, ℕ, List, [], ◌∷◌, ◌++◌, Bool, true, false, not, ◌||◌, ◌&&◌, Option, Some, None, refl}
use Rattle.std.specs.Prelude.{map, is_some, fold}
use Rattle.std.proofs.Common.{cond, sym, ap, ◌∙◌, subst}
use Rattle.std.specs.List.{filter, find, list_any}
use Rattle.std.specs.Map.{values_of, lookup, remove_entry}
use Rattle.std.specs.Option.{option_map, unwrap_or}
use Rattle.std.proofs.lemmas.Bool.{or_parts, false≢true}
use Rattle.std.proofs.lemmas.List.{map-append}
use Rattle.std.proofs.lemmas.List.Folds.{list_any-append}
use Rattle.cedar_ids.specs.Texts.{same_text}
use Rattle.cedar_ids.specs.laws.TextLaws.{same_text_equiv, same_text_decides}
use Rattle.cedar_body.specs.Bodies.{BodyParts, body_slots}
use Rattle.cedar_policy.specs.Policies.{PolicyParts, policy_id}
use Rattle.cedar_policy_maps.specs.PolicySets.{SetParts, AreOnce, is_bound, is_body_at, is_policy_at, links_to}
use Rattle.cedar_policy_maps.specs.PolicySets.{has_links}
use Rattle.cedar_policy_maps.specs.PolicySets.{with_template, with_policy, with_body_and_policy, without_id, IsHeldBy, IsHeld}
use Rattle.cedar_policy_maps.specs.PolicySets.{AreHeld}
use Rattle.cedar_policy_maps.specs.PolicySets.{IsPolicySet}
use Rattle.cedar_policy_maps.specs.Lists.{is_on, ids_in, is_slotless}
use Rattle.cedar_policy_maps.specs.Maps.{Maps, set_in, ids_by_body, templates_in, DoAgree}
use Rattle.cedar_policy_maps.specs.laws.SetLaws.{no_body_at, no_policy_at, ids_apart, template_joins, link_joins}
use Rattle.cedar_policy_maps.specs.laws.SetLaws.{free_link, both_free, both_join, removed_all, policy_has_no_links}
use Rattle.cedar_policy_maps.specs.Insertions.{CanInsert, CanInsertWithBodyBy, CanInsertWithBody}
use Rattle.cedar_policy_maps.specs.laws.ListedLaws.{with_listed, without_listed, keyed_last, keyed_removed}
use Rattle.cedar_policy_maps.specs.laws.ListedLaws.{values_removed, not_joined, join_listed, body_listed, both_listed}
use Rattle.cedar_policy_maps.specs.laws.ListedLaws.{leave_listed, body_unlisted}
use Rattle.cedar_policy_maps.specs.laws.OnceLaws.{no_other, find-unless, filter_none, any-filter_none, none_is}
use Rattle.cedar_policy_maps.specs.laws.OnceLaws.{found_passes, once-filter}
use Rattle.cedar_policy_maps.specs.laws.TemplateLaws.{template_last, static_last, templates_stay, templates_removed}
use Rattle.cedar_policy_maps.specs.laws.TemplateLaws.{template_found}

abbrev body_id : BodyParts → List ℕ
body_id t = t.id

abbrev own_body : PolicyParts → List ℕ
own_body p = p.template.id

pub templates_once : (ts : List BodyParts) (ps : List PolicyParts) → AreOnce body_id ts
    → AreOnce body_id (templates_in ps ts)
templates_once ts ps h = once-filter body_id (λ t. not (list_any (is_policy_at t.id) ps)) ts h

-- The lists after the removal of an optional policy.
abbrev pub unlisted : Option PolicyParts → List ℕ → List (List ℕ × List (List ℕ)) → List (List ℕ × List (List ℕ))
unlisted None i ls = ls
unlisted (Some p) i ls = without_listed p.template.id i ls

-- The lists with the ids of policies appended, one after another.
abbrev pub all_listed : List (List ℕ × List (List ℕ)) → List PolicyParts → List (List ℕ × List (List ℕ))
all_listed ls ps = fold (λ (done : List (List ℕ × List (List ℕ))) (p : PolicyParts). with_listed p.template.id
    (policy_id p) done) ls ps

-- Whether there is a non-empty list of ids.
abbrev pub has_ids : Option (List (List ℕ)) → Bool
has_ids None = false
has_ids (Some []) = false
has_ids (Some (k ∷ ks)) = true

-- ---- Lookups

pub listed_at : (i : List ℕ) (ts : List BodyParts) (ps : List PolicyParts)
    → lookup (same_text i) (ids_by_body ts ps) ≡ option_map (λ t. ids_in t.id ps) (find (is_body_at i) ts)
listed_at i [] ps = refl
listed_at i (t ∷ ts) ps = at_one (is_body_at i t) (listed_at i ts ps)
  where
    at_one : (v : Bool) → lookup (same_text i) (ids_by_body ts ps)
        ≡ option_map (λ t. ids_in t.id ps) (find (is_body_at i) ts)
        → cond v (Some (ids_in t.id ps)) (lookup (same_text i) (ids_by_body ts ps))
        ≡ option_map (λ t. ids_in t.id ps) (cond v (Some t) (find (is_body_at i) ts))
    at_one true h = refl
    at_one false h = h

on_none : (i j : List ℕ) (ts : List BodyParts) (t : BodyParts) → list_any (is_body_at i) ts ≡ false
    → find (is_body_at j) ts ≡ Some t → same_text i j ≡ false
on_none i j ts t n f = same_text_equiv.symm i j ∙ ids_apart ts j i t f n

deep_copy_map : (o : Option (List ℕ)) (b : SetParts) (i : List ℕ) (p : PolicyParts)
    → list_any (is_body_at i) b.bodies ≡ false → IsHeldBy o b p → is_on i p ≡ false
deep_copy_map None b i p n h = on_none i p.template.id b.bodies p.template n h.2
deep_copy_map (Some l) b i p n h = on_none i p.template.id b.bodies p.template n h.1

neither : (a c : Bool) → a ≡ false → c ≡ false → (a || c) ≡ false
neither a c p q = cc

or_true : (a c : Bool) → c ≡ true → (a || c) ≡ true
or_true true c h = refl
or_true false c h = h

none_passes : {X : Type 0} (t : X → Bool) (xs : List X) → list_any t xs ≡ false → filter t xs ≡ []
none_passes t [] h = refl
none_passes t (x ∷ xs) h = ap (λ v. cond v (x ∷ filter t xs) (filter t xs)) (or_parts _ _ h).0
    ∙ none_passes t xs (or_parts _ _ h).1

found_any : {X : Type 0} (t : X → Bool) (xs : List X) (x : X) → find t xs ≡ Some x → list_any t xs ≡ true
found_any t [] x h = absurd (cc)
found_any t (y ∷ ys) x h = any_at (t y) h (found_any t ys x)
  where
    any_at : (v : Bool) → cond v (Some y) (find t ys) ≡ Some x → (find t ys ≡ Some x → list_any t ys ≡ true)
        → (v || list_any t ys) ≡ true
    any_at true f ih = refl
    any_at false f ih = ih f

-- No policy uses a body that is not in the set.
pub none_on_it : (b : SetParts) (i : List ℕ) (ps : List PolicyParts) → list_any (is_body_at i) b.bodies ≡ false
    → AreHeld b ps → list_any (is_on i) ps ≡ false
none_on_it b i [] n h = refl
none_on_it b i (p ∷ ps) n h = neither _ _ (deep_copy_map p.link b i p n h.0) (none_on_it b i ps n h.1)

link_on : (o : Option (List ℕ)) (i k : List ℕ) → same_text i (unwrap_or o k) ≡ false
    → (is_some o && same_text i k) ≡ same_text i k
link_on None i k n = sym n
link_on (Some l) i k n = refl

-- If no policy has an id, the policies that use the body with the id are links.
links_on : (i : List ℕ) (ps : List PolicyParts) → list_any (is_policy_at i) ps ≡ false
    → list_any (links_to i) ps ≡ list_any (is_on i) ps
links_on i [] n = refl
links_on i (p ∷ ps) n = λ j. link_on p.link i p.template.id (or_parts _ _ n).0 j || links_on i ps (or_parts _ _ n).1 j

any_on_at : (v : Bool) (p : PolicyParts) (i : List ℕ) (ps : List PolicyParts)
    → has_ids (Some (ids_in i ps)) ≡ list_any (is_on i) ps →
    has_ids (Some (map policy_id (cond v (p ∷ filter (is_on i) ps) (filter (is_on i) ps))))
    ≡ (v || list_any (is_on i) ps)
any_on_at true p i ps h = refl
any_on_at false p i ps h = h

any_on : (i : List ℕ) (ps : List PolicyParts) → has_ids (Some (ids_in i ps)) ≡ list_any (is_on i) ps
any_on i [] = refl
any_on i (p ∷ ps) = any_on_at (is_on i p) p i ps (any_on i ps)

policy_unlinked : (b : SetParts) (i : List ℕ) (o : Option PolicyParts) → IsPolicySet b
    → find (is_policy_at i) b.policies ≡ o → list_any (is_policy_at i) b.policies ≡ true → has_links b i ≡ false
policy_unlinked b i (Some q) h f a = policy_has_no_links b i q h f
policy_unlinked b i None h f a = absurd (false≢true (sym (none_is (is_policy_at i) b.policies f) ∙ a))

linked_body : (b : SetParts) (i : List ℕ) (o : Option BodyParts) → IsPolicySet b → find (is_body_at i) b.bodies ≡ o
    → list_any (is_policy_at i) b.policies ≡ false →
    has_ids (option_map (λ t. ids_in t.id b.policies) o) ≡ has_links b i
linked_body b i None h f n =
    sym (links_on i b.policies n ∙ none_on_it b i b.policies (none_is (is_body_at i) b.bodies f) h.held)
linked_body b i (Some t) h f n =
    let same : i ≡ t.id = (same_text_decides i t.id).0 (found_passes (is_body_at i) b.bodies t f) in
    ap (λ k. has_ids (Some (ids_in k b.policies))) (sym same) ∙ any_on i b.policies ∙ sym (links_on i b.policies n)

linked_at : (v : Bool) (b : SetParts) (i : List ℕ) → IsPolicySet b → list_any (is_policy_at i) b.policies ≡ v →
    has_ids (option_map (λ t. ids_in t.id b.policies) (cond v None (find (is_body_at i) b.bodies))) ≡ has_links b i
linked_at true b i h e = sym (policy_unlinked b i (find (is_policy_at i) b.policies) h refl e)
linked_at false b i h e = linked_body b i (find (is_body_at i) b.bodies) h refl e

-- A template has links if its list is not empty, and only then.
pub linked_is : (b : SetParts) (i : List ℕ) → IsPolicySet b → has_ids
    (option_map (λ t. ids_in t.id b.policies) (find (is_body_at i) (templates_in b.policies b.bodies))) ≡ has_links b i
linked_is b i h =
    ap (λ o. has_ids (option_map (λ t. ids_in t.id b.policies) o)) (template_found i b.bodies b.policies)
    ∙ linked_at (list_any (is_policy_at i) b.policies) b i h refl

-- ---- The ids of the policies that use a body

is_own : (l : Option (List ℕ)) (b : SetParts) (i : List ℕ) (q : PolicyParts) → l ≡ q.link → IsHeldBy l b q
    → list_any (is_policy_at i) b.policies ≡ true → list_any (is_body_at i) b.bodies ≡ true →
    is_on i q ≡ is_policy_at i q
is_own None b i q e h a t = ap (λ o. same_text i (unwrap_or o q.template.id)) e
is_own (Some l) b i q e h a t =
    own_link (same_text i q.template.id) (same_text i l) refl refl ∙ ap (λ o. same_text i (unwrap_or o q.template.id)) e
  where
    own_link : (v w : Bool) → same_text i q.template.id ≡ v → same_text i l ≡ w
        → same_text i q.template.id ≡ same_text i l
    own_link true w f g = absurd (false≢true (sym h.2 ∙ ap (λ k. list_any (is_policy_at k) b.policies)
        (sym ((same_text_decides i q.template.id).0 f)) ∙ a))
    own_link false true f g = absurd (false≢true (sym h.0
        ∙ ap (λ k. list_any (is_body_at k) b.bodies) (sym ((same_text_decides i l).0 g)) ∙ t))
    own_link false false f g = f ∙ sym g

all_own : (b : SetParts) (i : List ℕ) (ps : List PolicyParts) → AreHeld b ps
    → list_any (is_policy_at i) b.policies ≡ true
    → list_any (is_body_at i) b.bodies ≡ true → ids_in i ps ≡ map policy_id (filter (is_policy_at i) ps)
all_own b i [] h a t = refl
all_own b i (p ∷ ps) h a t =
    own_at (is_on i p) (is_policy_at i p) (is_own p.link b i p refl h.0 a t) (all_own b i ps h.1 a t)
  where
    own_at : (v w : Bool) → v ≡ w → ids_in i ps ≡ map policy_id (filter (is_policy_at i) ps) →
        map policy_id (cond v (p ∷ filter (is_on i) ps) (filter (is_on i) ps))
        ≡ map policy_id (cond w (p ∷ filter (is_policy_at i) ps) (filter (is_policy_at i) ps))
    own_at v true e ih = ap (λ v. map policy_id (cond v (p ∷ filter (is_on i) ps) (filter (is_on i) ps))) e
        ∙ ap (λ ks. policy_id p ∷ ks) ih
    own_at v false e ih = ap (λ v. map policy_id (cond v (p ∷ filter (is_on i) ps) (filter (is_on i) ps))) e ∙ ih

one_at : (v : Bool) (i : List ℕ) (p q : PolicyParts) (ps : List PolicyParts) → is_policy_at i q ≡ v
    → cond v (Some q) (find (is_policy_at i) ps) ≡ Some p → (v ≡ true → list_any (is_policy_at i) ps ≡ false)
    → (find (is_policy_at i) ps ≡ Some p → filter (is_policy_at i) ps ≡ p ∷ [])
    → cond v (q ∷ filter (is_policy_at i) ps) (filter (is_policy_at i) ps) ≡ p ∷ []
one_at true i p q ps e f n ih =
    let same : q ≡ p = cc in
    ap (λ xs. q ∷ xs) (none_passes (is_policy_at i) ps (n refl)) ∙ ap (λ x. x ∷ []) same
one_at false i p q ps e f n ih = ih f

found_alone : (i : List ℕ) (p : PolicyParts) (ps : List PolicyParts) → AreOnce policy_id ps
    → find (is_policy_at i) ps ≡ Some p → filter (is_policy_at i) ps ≡ p ∷ []
found_alone i p [] h f = absurd (cc)
found_alone i p (q ∷ ps) h f = one_at (is_policy_at i q) i p q ps refl f (no_other policy_id i q ps h)
    (found_alone i p ps h.1)

own_of : (b : SetParts) (i : List ℕ) (p : PolicyParts) → IsPolicySet b → find (is_policy_at i) b.policies ≡ Some p
    → list_any (is_body_at i) b.bodies ≡ true → ids_in i b.policies ≡ policy_id p ∷ []
own_of b i p h f t =
    all_own b i b.policies h.held (found_any (is_policy_at i) b.policies p f) t
    ∙ ap (map policy_id) (found_alone i p b.policies h.policies_once f)

held_at : (v : Bool) (b : SetParts) (q p : PolicyParts) (rest : Option PolicyParts) → cond v (Some q) rest ≡ Some p
    → IsHeld b q → (rest ≡ Some p → IsHeld b p) → IsHeld b p
held_at true b q p rest e h ih =
    let same : q ≡ p = cc in
    subst (IsHeld b) same h
held_at false b q p rest e h ih = ih e

held_found : (b : SetParts) (i : List ℕ) (p : PolicyParts) (ps : List PolicyParts) → AreHeld b ps
    → find (is_policy_at i) ps ≡ Some p → IsHeld b p
held_found b i p [] h f = absurd (cc)
held_found b i p (q ∷ ps) h f = held_at (is_policy_at i q) b q p (find (is_policy_at i) ps) f h.0
    (held_found b i p ps h.1)

-- If no policy has an id, the body with the id is a template.
pub on_template : (b : SetParts) (i : List ℕ) → find (is_policy_at i) b.policies ≡ None
    → find (is_body_at i) (templates_in b.policies b.bodies) ≡ find (is_body_at i) b.bodies
on_template b i n = template_found i b.bodies b.policies
    ∙ ap (λ v. cond v None (find (is_body_at i) b.bodies)) (none_is (is_policy_at i) b.policies n)

own_id : (i : List ℕ) (p : PolicyParts) (ps : List PolicyParts) → find (is_policy_at i) ps ≡ Some p → i ≡ policy_id p
own_id i p ps f = (same_text_decides i (policy_id p)).0 (found_passes (is_policy_at i) ps p f)

link_ids_by : (o : Option (List ℕ)) (b : SetParts) (i : List ℕ) (p : PolicyParts) → o ≡ p.link → is_some o ≡ true
    → i ≡ policy_id p → IsHeldBy o b p → find (is_body_at i) b.bodies ≡ None
link_ids_by None b i p e s q h = absurd (cc)
link_ids_by (Some l) b i p e s q h =
    find-unless (is_body_at i) b.bodies (ap (λ k. list_any (is_body_at k) b.bodies) (q
    ∙ ap (λ o. unwrap_or o p.template.id) (sym e)) ∙ h.0)

-- No body has the id of a link.
pub link_ids : (b : SetParts) (i : List ℕ) (p : PolicyParts) → IsPolicySet b → find (is_policy_at i) b.policies ≡ Some p
    → is_some p.link ≡ true → None ≡ option_map (λ t. ids_in t.id b.policies) (find (is_body_at i) b.bodies)
link_ids b i p h f s =
    sym (ap (option_map (λ t. ids_in t.id b.policies))
    (link_ids_by p.link b i p refl s (own_id i p b.policies f) (held_found b i p b.policies h.held f)))

static_body_by : (o : Option (List ℕ)) (b : SetParts) (i : List ℕ) (p : PolicyParts) → o ≡ p.link → is_some o ≡ false
    → i ≡ policy_id p → IsHeldBy o b p → (find (is_body_at i) b.bodies ≡ Some p.template) × (i ≡ p.template.id)
static_body_by None b i p e s q h =
    let own : i ≡ p.template.id = q ∙ ap (λ o. unwrap_or o p.template.id) (sym e) in
    (ap (λ k. find (is_body_at k) b.bodies) own ∙ h.2, own)
static_body_by (Some l) b i p e s q h = absurd (cc)

-- Only a static policy uses its own body.
pub static_ids : (b : SetParts) (i : List ℕ) (p : PolicyParts) → IsPolicySet b
    → find (is_policy_at i) b.policies ≡ Some p → is_some p.link ≡ false →
    Some (policy_id p ∷ []) ≡ option_map (λ t. ids_in t.id b.policies) (find (is_body_at i) b.bodies)
static_ids b i p h f s =
    let k = static_body_by p.link b i p refl s (own_id i p b.policies f) (held_found b i p b.policies h.held f) in
    sym
    (ap (option_map (λ t. ids_in t.id b.policies)) k.0
    ∙ ap (λ j. Some (ids_in j b.policies)) (sym k.1)
    ∙ ap Some (own_of b i p h f (found_any (is_body_at i) b.bodies p.template k.0)))

slotted_by : (o : Option (List ℕ)) (b : SetParts) (i : List ℕ) (t : BodyParts) (p : PolicyParts) → o ≡ p.link
    → i ≡ policy_id p → IsHeldBy o b p → find (is_body_at i) b.bodies ≡ Some t → is_slotless (body_slots t) ≡ false → ⊥
slotted_by None b i t p e q h f s =
    let k = static_body_by None b i p e refl q h in
    let same : t ≡ p.template = cc (f, k.0) in
    false≢true (sym s ∙ ap (λ (u : BodyParts). is_slotless (body_slots u)) same ∙ ap is_slotless h.1)
slotted_by (Some l) b i t p e q h f s =
    let none = link_ids_by (Some l) b i p e refl q h in
    absurd (cc (none, f))

slotted_found : (b : SetParts) (i : List ℕ) (t : BodyParts) (o : Option PolicyParts) → IsPolicySet b
    → find (is_policy_at i) b.policies ≡ o → find (is_body_at i) b.bodies ≡ Some t
    → is_slotless (body_slots t) ≡ false → o ≡ None
slotted_found b i t None h g f s = refl
slotted_found b i t (Some p) h g f s = absurd
    (slotted_by p.link b i t p refl (own_id i p b.policies g) (held_found b i p b.policies h.held g) f s)

-- No policy has the id of a body with slots.
pub slotted_free : (b : SetParts) (i : List ℕ) (t : BodyParts) → IsPolicySet b → find (is_body_at i) b.bodies ≡ Some t
    → is_slotless (body_slots t) ≡ false → list_any (is_policy_at i) b.policies ≡ false
slotted_free b i t h f s =
    none_is (is_policy_at i) b.policies (slotted_found b i t (find (is_policy_at i) b.policies) h refl f s)

-- ---- Additions

abbrev Becomes : Maps → SetParts → Type 0
Becomes m b = DoAgree m × (set_in m ≡ b)

last_value : {V : Type 0} (es : List (List ℕ × V)) (k : List ℕ) (v : V)
    → values_of (es ++ (k, v) ∷ []) ≡ values_of es ++ v ∷ []
last_value es k v = map-append (λ e. e.1) es ((k, v) ∷ [])

-- The maps agree after a template with an unused id is added.
template_agrees : (m : Maps) (t : BodyParts) → DoAgree m → is_bound (set_in m) t.id ≡ false →
    Becomes (record {
      bodies = m.bodies ++ (t.id, t) ∷ [];
      policies = m.policies;
      listed =
          m.listed ++ (t.id, []) ∷ [];
    }) (with_template (set_in m) t)
template_agrees m t h n =
    let b = set_in m in
    let ts = last_value m.bodies t.id t in
    let now : set_in
    (record { bodies = m.bodies ++ (t.id, t) ∷ []; policies = m.policies; listed = m.listed ++ (t.id, []) ∷ [] })
    ≡ with_template b t = λ j. record { bodies = ts j; policies = b.policies } in (
      record {
        policy_set = subst IsPolicySet (sym now) (template_joins b t h.policy_set n);
        bodies_by_id = keyed_last body_id m.bodies t.id t h.bodies_by_id refl;
        policies_by_id = h.policies_by_id;
        all_listed =
            ap (λ ls. ls ++ (t.id, []) ∷ []) h.all_listed
            ∙ sym (body_listed body_id policy_id own_body (templates_in b.policies b.bodies) b.policies t
            (none_on_it b t.id b.policies (no_body_at b t.id n) h.policy_set.held))
            ∙ ap (λ us. ids_by_body us b.policies) (sym (template_last b.bodies b.policies t (no_policy_at b t.id n)))
            ∙ ap (λ us. ids_by_body (templates_in b.policies us) b.policies) (sym ts);
      },
      now,
    )

pub template_kept : (m : Maps) (t : BodyParts) (bs : List (List ℕ × BodyParts)) (ls : List (List ℕ × List (List ℕ)))
    → DoAgree m → is_bound (set_in m) t.id ≡ false →
    bs ≡ m.bodies ++ (t.id, t) ∷ [] → ls ≡ m.listed ++ (t.id, []) ∷ []
    → Becomes (record { bodies = bs; policies = m.policies; listed = ls }) (with_template (set_in m) t)
template_kept m t bs ls h n p q = rw (p, q) (template_agrees m t h n)

-- The maps agree after a link of an existing template is added.
policy_agrees : (m : Maps) (p : PolicyParts) → DoAgree m → CanInsert (set_in m) p →
    Becomes (record {
      bodies = m.bodies;
      policies = m.policies ++ (policy_id p, p) ∷ [];
      listed =
          with_listed p.template.id (policy_id p) m.listed;
    }) (with_policy (set_in m) p)
policy_agrees m p h c =
    let b = set_in m in
    let ps = last_value m.policies (policy_id p) p in
    let free = free_link p.link b p refl c in
    let now : set_in
    (record {
      bodies = m.bodies;
      policies = m.policies ++ (policy_id p, p) ∷ [];
      listed = with_listed p.template.id (policy_id p) m.listed;
    }) ≡ with_policy b p =
    λ j. record { bodies = b.bodies; policies = ps j } in (
      record {
        policy_set = subst IsPolicySet (sym now) (link_joins b p h.policy_set c);
        bodies_by_id = h.bodies_by_id;
        policies_by_id = keyed_last policy_id m.policies (policy_id p) p h.policies_by_id refl;
        all_listed =
            ap (with_listed p.template.id (policy_id p)) h.all_listed
            ∙ join_listed body_id policy_id own_body (templates_in b.policies b.bodies) b.policies p
            (templates_once b.bodies b.policies h.policy_set.bodies_once) (no_policy_at b (policy_id p) free)
            ∙ ap (λ us. ids_by_body us (b.policies ++ p ∷ []))
            (sym (templates_stay b.bodies b.policies p (no_body_at b (policy_id p) free)))
            ∙ ap (λ qs. ids_by_body (templates_in qs b.bodies) qs) (sym ps);
      },
      now,
    )

pub policy_kept : (m : Maps) (p : PolicyParts) (qs : List (List ℕ × PolicyParts)) (ls : List (List ℕ × List (List ℕ)))
    → DoAgree m → CanInsert (set_in m) p →
    qs ≡ m.policies ++ (policy_id p, p) ∷ [] → ls ≡ with_listed p.template.id (policy_id p) m.listed
    → Becomes (record { bodies = m.bodies; policies = qs; listed = ls }) (with_policy (set_in m) p)
policy_kept m p qs ls h c f g = rw (f, g) (policy_agrees m p h c)

-- The maps agree after a static policy and its body are added. The body gets no list.
static_agrees : (m : Maps) (p : PolicyParts) → DoAgree m → CanInsertWithBody (set_in m) p → p.link ≡ None →
    Becomes (record {
      bodies = m.bodies ++ (p.template.id, p.template) ∷ [];
      policies =
          m.policies ++ (policy_id p, p) ∷ [];
      listed = m.listed;
    }) (with_body_and_policy (set_in m) p.template p)
static_agrees m p h c e =
    let b = set_in m in
    let t = p.template in
    let ts = last_value m.bodies t.id t in
    let ps = last_value m.policies (policy_id p) p in
    let own : policy_id p ≡ t.id = ap (λ o. unwrap_or o t.id) e in
    let none : list_any (is_body_at (policy_id p)) b.bodies ≡ false = ap (λ i. list_any (is_body_at i) b.bodies) own
    ∙ no_body_at b t.id c.0 in
    let there : list_any (is_policy_at t.id) (b.policies ++ p ∷ []) ≡ true =
    list_any-append (is_policy_at t.id) b.policies (p ∷ [])
    ∙ or_true _ _ (ap (λ i. same_text t.id i || false) own ∙ ap (λ v. v || false) (same_text_equiv.refl t.id)) in
    let now : set_in (record {
      bodies = m.bodies ++ (t.id, t) ∷ [];
      policies = m.policies ++ (policy_id p, p) ∷ [];
      listed = m.listed;
    }) ≡ with_body_and_policy b t p = λ j. record { bodies = ts j; policies = ps j } in (
      record {
        policy_set = subst IsPolicySet (sym now) (both_join b p h.policy_set c);
        bodies_by_id = keyed_last body_id m.bodies t.id t h.bodies_by_id refl;
        policies_by_id = keyed_last policy_id m.policies (policy_id p) p h.policies_by_id refl;
        all_listed =
            h.all_listed
            ∙ sym (not_joined body_id policy_id own_body (templates_in b.policies b.bodies) b.policies p
            (any-filter_none (λ (t : BodyParts). not (list_any (is_policy_at t.id) b.policies))
            (is_body_at t.id) b.bodies (no_body_at b t.id c.0)))
            ∙ ap (λ us. ids_by_body us (b.policies ++ p ∷ [])) (sym (static_last b.bodies (b.policies ++ p ∷ []) t there
            ∙ templates_stay b.bodies b.policies p none))
            ∙ (λ j. ids_by_body (templates_in (sym ps j) (sym ts j)) (sym ps j));
      },
      now,
    )

pub static_kept : (m : Maps) (p : PolicyParts) (bs : List (List ℕ × BodyParts)) (qs : List (List ℕ × PolicyParts))
    → DoAgree m → CanInsertWithBody (set_in m) p → p.link ≡ None →
    bs ≡ m.bodies ++ (p.template.id, p.template) ∷ [] → qs ≡ m.policies ++ (policy_id p, p) ∷ [] →
    Becomes (record { bodies = bs; policies = qs; listed = m.listed }) (with_body_and_policy (set_in m) p.template p)
static_kept m p bs qs h c e f g = rw (f, g) (static_agrees m p h c e)

-- The id of a link that is added with its template differs from the template's id.
link_apart : (o : Option (List ℕ)) (b : SetParts) (p : PolicyParts) → o ≡ p.link → (o ≡ None → ⊥) → CanInsertWithBodyBy o b p
    → same_text p.template.id (policy_id p) ≡ false
link_apart None b p e n c = absurd (n refl)
link_apart (Some l) b p e n c = ap (λ o. same_text p.template.id (unwrap_or o p.template.id)) (sym e)
    ∙ same_text_equiv.symm p.template.id l ∙ c.1

link_agrees : (m : Maps) (p : PolicyParts) → DoAgree m → CanInsertWithBody (set_in m) p → (p.link ≡ None → ⊥) →
    Becomes (record {
      bodies = m.bodies ++ (p.template.id, p.template) ∷ [];
      policies =
          m.policies ++ (policy_id p, p) ∷ [];
      listed = m.listed
          ++ (p.template.id, policy_id p ∷ []) ∷ [];
    }) (with_body_and_policy (set_in m) p.template p)
link_agrees m p h c l =
    let b = set_in m in
    let t = p.template in
    let ts = last_value m.bodies t.id t in
    let ps = last_value m.policies (policy_id p) p in
    let free = no_body_at b t.id c.0 in
    let none : list_any (is_body_at (policy_id p)) b.bodies ≡ false =
    no_body_at b (policy_id p) (both_free p.link b p refl c.0 c.1) in
    let unused : list_any (is_policy_at t.id) (b.policies ++ p ∷ []) ≡ false =
    list_any-append (is_policy_at t.id) b.policies (p ∷ [])
    ∙ neither _ _ (no_policy_at b t.id c.0) (neither _ _ (link_apart p.link b p refl l c.1) refl) in
    let now : set_in (record {
      bodies = m.bodies ++ (t.id, t) ∷ [];
      policies = m.policies ++ (policy_id p, p) ∷ [];
      listed = m.listed ++ (t.id, policy_id p ∷ []) ∷ [];
    })
    ≡ with_body_and_policy b t p = λ j. record { bodies = ts j; policies = ps j } in (
      record {
        policy_set = subst IsPolicySet (sym now) (both_join b p h.policy_set c);
        bodies_by_id = keyed_last body_id m.bodies t.id t h.bodies_by_id refl;
        policies_by_id = keyed_last policy_id m.policies (policy_id p) p h.policies_by_id refl;
        all_listed =
            ap (λ ls. ls ++ (t.id, policy_id p ∷ []) ∷ []) h.all_listed
            ∙ sym (both_listed body_id policy_id own_body (templates_in b.policies b.bodies) b.policies t p refl
            (any-filter_none (λ (t : BodyParts). not (list_any (is_policy_at t.id) b.policies))
            (is_body_at t.id) b.bodies free) (none_on_it b t.id b.policies free h.policy_set.held))
            ∙ ap (λ us. ids_by_body us (b.policies ++ p ∷ []))
            (sym (template_last b.bodies (b.policies ++ p ∷ []) t unused
            ∙ ap (λ us. us ++ t ∷ []) (templates_stay b.bodies b.policies p none)))
            ∙ (λ j. ids_by_body (templates_in (sym ps j) (sym ts j)) (sym ps j));
      },
      now,
    )

pub link_kept : (m : Maps) (p : PolicyParts) (bs : List (List ℕ × BodyParts)) (qs : List (List ℕ
    × PolicyParts)) (ls : List (List ℕ × List (List ℕ))) → DoAgree m → CanInsertWithBody (set_in m) p
    → (p.link ≡ None → ⊥) →
    bs ≡ m.bodies ++ (p.template.id, p.template) ∷ [] → qs ≡ m.policies ++ (policy_id p, p) ∷ []
    → ls ≡ m.listed ++ (p.template.id, policy_id p ∷ []) ∷ [] →
    Becomes (record { bodies = bs; policies = qs; listed = ls }) (with_body_and_policy (set_in m) p.template p)
link_kept m p bs qs ls h c l f g k = rw (f, g, k) (link_agrees m p h c l)

-- ---- Removals

left_listed : (o : Option PolicyParts) (i : List ℕ) (ts : List BodyParts) (ps : List PolicyParts) → AreOnce body_id ts
    → AreOnce policy_id ps → o ≡ find (is_policy_at i) ps →
    unlisted o i (ids_by_body ts ps) ≡ ids_by_body ts (filter (λ p. not (is_policy_at i p)) ps)
left_listed None i ts ps h g e = ap (ids_by_body ts) (sym
    (filter_none (is_policy_at i) ps (none_is (is_policy_at i) ps (sym e))))
left_listed (Some p) i ts ps h g e = leave_listed body_id policy_id own_body ts i p ps h g (sym e)

taken_agrees : (m : Maps) (i : List ℕ) (o : Option PolicyParts) → DoAgree m → has_links (set_in m) i ≡ false
    → o ≡ find (is_policy_at i) (set_in m).policies →
    Becomes (record {
      bodies = remove_entry (same_text i) m.bodies;
      policies =
          remove_entry (same_text i) m.policies;
      listed =
          unlisted o i (remove_entry (same_text i) m.listed);
    }) (without_id (set_in m) i)
taken_agrees m i o h n e =
    let b = set_in m in
    let ts = values_removed body_id i m.bodies h.bodies_by_id h.policy_set.bodies_once in
    let ps = values_removed policy_id i m.policies h.policies_by_id h.policy_set.policies_once in
    let templates = templates_in b.policies b.bodies in
    let once : AreOnce body_id templates = templates_once b.bodies b.policies h.policy_set.bodies_once in
    let now : set_in (record {
      bodies = remove_entry (same_text i) m.bodies;
      policies = remove_entry (same_text i) m.policies;
      listed = unlisted o i (remove_entry (same_text i) m.listed);
    })
    ≡ without_id b i = λ j. record { bodies = ts j; policies = ps j } in (
      record {
        policy_set = subst IsPolicySet (sym now) (removed_all b i h.policy_set n);
        bodies_by_id = keyed_removed body_id (same_text i) m.bodies h.bodies_by_id;
        policies_by_id = keyed_removed policy_id (same_text i) m.policies h.policies_by_id;
        all_listed =
            ap (λ ls. unlisted o i (remove_entry (same_text i) ls)) h.all_listed
            ∙ ap (unlisted o i) (body_unlisted body_id policy_id own_body i templates b.policies once)
            ∙ left_listed o i (filter (λ t. not (is_body_at i t)) templates) b.policies
            (once-filter body_id (λ t. not (is_body_at i t)) templates once) h.policy_set.policies_once e
            ∙ ap (λ us. ids_by_body us (filter (λ p. not (is_policy_at i p)) b.policies))
            (sym (templates_removed i b.bodies b.policies))
            ∙ (λ j. ids_by_body (templates_in (sym ps j) (sym ts j)) (sym ps j));
      },
      now,
    )

pub taken_kept : (m : Maps) (i : List ℕ) (o : Option PolicyParts) (bs : List (List ℕ × BodyParts)) (qs : List (List ℕ
    × PolicyParts)) (ls : List (List ℕ × List (List ℕ))) →
    DoAgree m → has_links (set_in m) i ≡ false → o ≡ find (is_policy_at i) (set_in m).policies →
    bs ≡ remove_entry (same_text i) m.bodies → qs ≡ remove_entry (same_text i) m.policies
    → ls ≡ unlisted o i (remove_entry (same_text i) m.listed) →
    Becomes (record { bodies = bs; policies = qs; listed = ls }) (without_id (set_in m) i)
taken_kept m i o bs qs ls h n e f g k = rw (f, g, k) (taken_agrees m i o h n e)
