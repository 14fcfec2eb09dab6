-- Collecting the ids of new links by template. Appending the collected ids has the same result as appending the ids one
-- by one.
use Rattle.std.specs.Prelude.{◌≡◌, ℕ, List, [], ◌∷◌, ◌++◌, Bool, true, false, not, ◌||◌, ◌&&◌, Option, Some, None, refl, map}
use Rattle.std.specs.Prelude.{is_some, fold, if◌then◌else◌}
use Rattle.std.proofs.Common.{cond, sym, ap, ◌∙◌, subst}
use Rattle.std.specs.List.{filter, list_any}
use Rattle.std.specs.Map.{keys_of}
use Rattle.std.specs.Option.{unwrap_or}
use Rattle.std.proofs.lemmas.Bool.{or_parts, false≢true}
use Rattle.std.proofs.lemmas.List.{append-nil, append_assoc}
use Rattle.std.proofs.lemmas.List.Folds.{list_any-append}
use Rattle.std.proofs.lemmas.List.Sums.{fold-append}
use Rattle.indexmap.specs.IndexSet.{insert_key, insert_all}
use Rattle.cedar_ids.specs.Texts.{same_text}
use Rattle.cedar_ids.specs.laws.TextLaws.{same_text_equiv, same_text_decides}
use Rattle.cedar_body.specs.Bodies.{BodyParts}
use Rattle.cedar_policy.specs.Policies.{PolicyParts, policy_id}
use Rattle.cedar_policy_maps.specs.PolicySets.{AreOnce, is_body_at, is_policy_at}
use Rattle.cedar_policy_maps.specs.Maps.{ids_by_body, templates_in}
use Rattle.cedar_policy_maps.specs.BulkInsert.{HaveIdsFreeOf}
use Rattle.cedar_policy_maps.specs.laws.BulkInsertSteps.{grown_by, HaveOwnKeys, changed_keys}
use Rattle.cedar_policy_maps.specs.laws.ListedLaws.{changed, with_listed, join_listed}
use Rattle.cedar_policy_maps.specs.laws.MapLaws.{all_listed, templates_once}
use Rattle.cedar_policy_maps.specs.laws.OnceLaws.{is_at, before_at, once-push, any-map}

abbrev body_id : BodyParts → List ℕ
body_id t = t.id

abbrev own_body : PolicyParts → List ℕ
own_body p = p.template.id

-- The lists with an id appended to the list under a key. If there is no such list, one is appended.
abbrev pub with_gathered : List ℕ → List ℕ → List (List ℕ × List (List ℕ)) → List (List ℕ × List (List ℕ))
with_gathered k i [] = (k, i ∷ []) ∷ []
with_gathered k i (u ∷ us) = if same_text k u.0 then (u.0, insert_key same_text u.1 i) ∷ us else u ∷ with_gathered k i us

-- The same, or no change if the Boolean is true.
abbrev pub gathered_unless : Bool → List ℕ → List ℕ → List (List ℕ × List (List ℕ)) → List (List ℕ × List (List ℕ))
gathered_unless v k i us = if v then us else with_gathered k i us

-- The lists with the ids of policies appended, one after another.
abbrev pub gathered : List (List ℕ × List (List ℕ)) → List PolicyParts → List (List ℕ × List (List ℕ))
gathered us ps = fold (λ (done : List (List ℕ × List (List ℕ))) (p : PolicyParts). with_gathered p.template.id
    (policy_id p) done) us ps

-- The links among some policies.
abbrev pub links_in : List PolicyParts → List PolicyParts
links_in ps = filter (λ p. is_some p.link) ps

-- Whether a policy is a link whose template has none of these ids.
abbrev pub is_elsewhere : List (List ℕ) → PolicyParts → Bool
is_elsewhere ks p = is_some p.link && not (list_any (same_text p.template.id) ks)

-- The links whose templates have none of these ids.
abbrev pub elsewhere_in : List (List ℕ) → List PolicyParts → List PolicyParts
elsewhere_in ks ps = filter (is_elsewhere ks) ps

-- ---- Lists that change

changed_none : (t : List ℕ → Bool) (f : List (List ℕ) → List (List ℕ)) (ls : List (List ℕ × List (List ℕ)))
    → list_any t (keys_of ls) ≡ false → changed t f ls ≡ ls
changed_none t f [] n = refl
changed_none t f (e ∷ ls) n =
    ap (λ v. cond v ((e.0, f e.1) ∷ ls) (e ∷ changed t f ls)) (or_parts _ _ n).0
    ∙ ap (λ xs. e ∷ xs) (changed_none t f ls (or_parts _ _ n).1)

twice_at : (v : Bool) (t : List ℕ → Bool) (f g : List (List ℕ) → List (List ℕ)) (e : List ℕ × List (List ℕ))
    (ls : List (List ℕ × List (List ℕ))) → t e.0 ≡ v
    → changed t g (changed t f ls) ≡ changed t (λ ks. g (f ks)) ls
    → changed t g (cond v ((e.0, f e.1) ∷ ls) (e ∷ changed t f ls))
    ≡ cond v ((e.0, g (f e.1)) ∷ ls) (e ∷ changed t (λ ks. g (f ks)) ls)
twice_at true t f g e ls q ih =
    ap (λ v. cond v ((e.0, g (f e.1)) ∷ ls) ((e.0, f e.1) ∷ changed t g ls)) q
twice_at false t f g e ls q ih =
    ap (λ v. cond v ((e.0, g e.1) ∷ changed t f ls) (e ∷ changed t g (changed t f ls))) q ∙ ap (λ xs. e ∷ xs) ih

changed_twice : (t : List ℕ → Bool) (f g : List (List ℕ) → List (List ℕ)) (ls : List (List ℕ × List (List ℕ)))
    → changed t g (changed t f ls) ≡ changed t (λ ks. g (f ks)) ls
changed_twice t f g [] = refl
changed_twice t f g (e ∷ ls) = twice_at (t e.0) t f g e ls refl (changed_twice t f g ls)

apart_at : (v w : Bool) (s t : List ℕ → Bool) (f g : List (List ℕ) → List (List ℕ)) (e : List ℕ × List (List ℕ))
    (ls : List (List ℕ × List (List ℕ))) → s e.0 ≡ v → t e.0 ≡ w → (v ≡ true → w ≡ false)
    → changed s f (changed t g ls) ≡ changed t g (changed s f ls)
    → changed s f (cond w ((e.0, g e.1) ∷ ls) (e ∷ changed t g ls))
    ≡ changed t g (cond v ((e.0, f e.1) ∷ ls) (e ∷ changed s f ls))
apart_at true true s t f g e ls p q n ih = absurd (false≢true (sym (n refl)))
apart_at true false s t f g e ls p q n ih =
    ap (λ v. cond v ((e.0, f e.1) ∷ changed t g ls) (e ∷ changed s f (changed t g ls))) p
    ∙ sym (ap (λ w. cond w ((e.0, g (f e.1)) ∷ ls) ((e.0, f e.1) ∷ changed t g ls)) q)
apart_at false true s t f g e ls p q n ih =
    ap (λ v. cond v ((e.0, f (g e.1)) ∷ ls) ((e.0, g e.1) ∷ changed s f ls)) p
    ∙ sym (ap (λ w. cond w ((e.0, g e.1) ∷ changed s f ls) (e ∷ changed t g (changed s f ls))) q)
apart_at false false s t f g e ls p q n ih =
    ap (λ v. cond v ((e.0, f e.1) ∷ changed t g ls) (e ∷ changed s f (changed t g ls))) p ∙ ap (λ xs. e ∷ xs) ih
    ∙ sym (ap (λ w. cond w ((e.0, g e.1) ∷ changed s f ls) (e ∷ changed t g (changed s f ls))) q)

changed_apart : (s t : List ℕ → Bool) (f g : List (List ℕ) → List (List ℕ)) (ls : List (List ℕ × List (List ℕ)))
    → ((k : List ℕ) → s k ≡ true → t k ≡ false) → changed s f (changed t g ls) ≡ changed t g (changed s f ls)
changed_apart s t f g [] n = refl
changed_apart s t f g (e ∷ ls) n =
    apart_at (s e.0) (t e.0) s t f g e ls refl refl (n e.0) (changed_apart s t f g ls n)

-- ---- One more id in a list that grows

any_more : (v : Bool) (t : List ℕ → Bool) (ks : List (List ℕ)) (u : List ℕ) → list_any t ks ≡ true
    → list_any t (cond v ks (ks ++ u ∷ [])) ≡ true
any_more true t ks u h = h
any_more false t ks u h = list_any-append t ks (u ∷ []) ∙ ap (λ v. v || list_any t (u ∷ [])) h

any_all : (t : List ℕ → Bool) (ks us : List (List ℕ)) → list_any t ks ≡ true
    → list_any t (insert_all same_text ks us) ≡ true
any_all t ks [] h = h
any_all t ks (u ∷ us) h = any_all t (insert_key same_text ks u) us (any_more (list_any (same_text u) ks) t ks u h)

or_last : (a b : Bool) → b ≡ true → (a || (b || false)) ≡ true
or_last true b h = refl
or_last false true h = refl
or_last false false h = absurd (cc)

any_one : (v : Bool) (i u : List ℕ) (ks : List (List ℕ)) → list_any (same_text u) ks ≡ v → same_text i u ≡ true
    → list_any (same_text i) (cond v ks (ks ++ u ∷ [])) ≡ true
any_one true i u ks n h = ap (λ k. list_any (same_text k) ks) ((same_text_decides i u).0 h) ∙ n
any_one false i u ks n h = list_any-append (same_text i) ks (u ∷ []) ∙ or_last _ _ h

has_at : (v : Bool) (i u : List ℕ) (ks us : List (List ℕ)) → same_text i u ≡ v
    → (v || list_any (same_text i) us) ≡ true
    → (list_any (same_text i) us ≡ true → list_any (same_text i) (insert_all same_text (insert_key same_text ks u) us)
    ≡ true) → list_any (same_text i) (insert_all same_text (insert_key same_text ks u) us) ≡ true
has_at true i u ks us e h ih =
    any_all (same_text i) (insert_key same_text ks u) us (any_one (list_any (same_text u) ks) i u ks refl e)
has_at false i u ks us e h ih = ih h

has_all : (i : List ℕ) (ks us : List (List ℕ)) → list_any (same_text i) us ≡ true
    → list_any (same_text i) (insert_all same_text ks us) ≡ true
has_all i ks [] h = absurd (false≢true h)
has_all i ks (u ∷ us) h = has_at (same_text i u) i u ks us refl h (has_all i (insert_key same_text ks u) us)

more_at : (v : Bool) (i : List ℕ) (ks us : List (List ℕ)) → list_any (same_text i) us ≡ v
    → insert_all same_text ks (cond v us (us ++ i ∷ [])) ≡ insert_key same_text (insert_all same_text ks us) i
more_at true i ks us e =
    sym (ap (λ v. cond v (insert_all same_text ks us) (insert_all same_text ks us ++ i ∷ [])) (has_all i ks us e))
more_at false i ks us e = fold-append (insert_key same_text) ks us (i ∷ [])

insert_more : (i : List ℕ) (ks us : List (List ℕ))
    → insert_all same_text ks (insert_key same_text us i) ≡ insert_key same_text (insert_all same_text ks us) i
insert_more i ks us = more_at (list_any (same_text i) us) i ks us refl

-- ---- Lists that grow by the collected ids

other_key : (v : Bool) (a k j : List ℕ) → same_text a k ≡ false → same_text k j ≡ true → same_text a j ≡ v → v ≡ false
other_key true a k j n e f =
    absurd (false≢true (sym n ∙ ap (same_text a) ((same_text_decides k j).0 e) ∙ f))
other_key false a k j n e f = refl

listed_behind : (a i : List ℕ) (ls us : List (List ℕ × List (List ℕ))) → list_any (same_text a) (keys_of us) ≡ false
    → grown_by (with_listed a i ls) us ≡ with_listed a i (grown_by ls us)
listed_behind a i ls [] n = refl
listed_behind a i ls (u ∷ us) n =
    ap (λ xs. grown_by xs us)
    (changed_apart (same_text u.0) (same_text a) (λ ks. insert_all same_text ks u.1)
    (λ ks. insert_key same_text ks i) ls
    (λ j e. other_key (same_text a j) a u.0 j (or_parts _ _ n).0 e refl))
    ∙ listed_behind a i (changed (same_text u.0) (λ ks. insert_all same_text ks u.1) ls) us (or_parts _ _ n).1

gathered_at : (v : Bool) (k i : List ℕ) (u : List ℕ × List (List ℕ)) (us ls : List (List ℕ × List (List ℕ)))
    → same_text k u.0 ≡ v → list_any (same_text u.0) (keys_of us) ≡ false
    → grown_by (changed (same_text u.0) (λ ks. insert_all same_text ks u.1) ls) (with_gathered k i us)
    ≡ with_listed k i (grown_by (changed (same_text u.0) (λ ks. insert_all same_text ks u.1) ls) us)
    → grown_by ls (cond v ((u.0, insert_key same_text u.1 i) ∷ us) (u ∷ with_gathered k i us))
    ≡ with_listed k i (grown_by (changed (same_text u.0) (λ ks. insert_all same_text ks u.1) ls) us)
gathered_at true k i u us ls e n ih =
    (λ j. grown_by (changed (same_text u.0) (λ ks. insert_more i ks u.1 j) ls) us)
    ∙ ap (λ xs. grown_by xs us) (sym (changed_twice (same_text u.0) (λ ks. insert_all same_text ks u.1)
    (λ ks. insert_key same_text ks i) ls))
    ∙ listed_behind u.0 i (changed (same_text u.0) (λ ks. insert_all same_text ks u.1) ls) us n
    ∙ ap (λ a. with_listed a i (grown_by (changed (same_text u.0) (λ ks. insert_all same_text ks u.1) ls) us))
    (sym ((same_text_decides k u.0).0 e))
gathered_at false k i u us ls e n ih = ih

grown_gathered : (k i : List ℕ) (us ls : List (List ℕ × List (List ℕ))) → HaveOwnKeys us
    → grown_by ls (with_gathered k i us) ≡ with_listed k i (grown_by ls us)
grown_gathered k i [] ls h = refl
grown_gathered k i (u ∷ us) ls h = gathered_at (same_text k u.0) k i u us ls refl h.0
    (grown_gathered k i us (changed (same_text u.0) (λ ks. insert_all same_text ks u.1) ls) h.1)

keys_at : (v w : Bool) (k i : List ℕ) (u : List ℕ × List (List ℕ)) (us : List (List ℕ × List (List ℕ)))
    → keys_of (with_gathered k i us) ≡ cond w (keys_of us) (keys_of us ++ k ∷ [])
    → keys_of (cond v ((u.0, insert_key same_text u.1 i) ∷ us) (u ∷ with_gathered k i us))
    ≡ cond (v || w) (u.0 ∷ keys_of us) (u.0 ∷ keys_of us ++ k ∷ [])
keys_at true w k i u us ih = refl
keys_at false true k i u us ih = ap (λ ks. u.0 ∷ ks) ih
keys_at false false k i u us ih = ap (λ ks. u.0 ∷ ks) ih

gathered_keys : (k i : List ℕ) (us : List (List ℕ × List (List ℕ)))
    → keys_of (with_gathered k i us) ≡ insert_key same_text (keys_of us) k
gathered_keys k i [] = refl
gathered_keys k i (u ∷ us) =
    keys_at (same_text k u.0) (list_any (same_text k) (keys_of us)) k i u us (gathered_keys k i us)

own_at : (v : Bool) (ks : List (List ℕ)) (k : List ℕ) → AreOnce (λ (j : List ℕ). j) ks
    → list_any (same_text k) ks ≡ v → AreOnce (λ (j : List ℕ). j) (cond v ks (ks ++ k ∷ []))
own_at true ks k h n = h
own_at false ks k h n = once-push (λ (j : List ℕ). j) ks k h n

own_gathered : (k i : List ℕ) (us : List (List ℕ × List (List ℕ))) → HaveOwnKeys us → HaveOwnKeys (with_gathered k i us)
own_gathered k i us h =
    subst (AreOnce (λ (j : List ℕ). j)) (sym (gathered_keys k i us))
    (own_at (list_any (same_text k) (keys_of us)) (keys_of us) k h refl)

-- The collected lists have different keys.
pub gathered_own : (us : List (List ℕ × List (List ℕ))) (ps : List PolicyParts) → HaveOwnKeys us
    → HaveOwnKeys (gathered us ps)
gathered_own us [] h = h
gathered_own us (p ∷ ps) h =
    gathered_own (with_gathered p.template.id (policy_id p) us) ps (own_gathered p.template.id (policy_id p) us h)

-- Appending the collected ids of policies has the same result as appending the ids one by one.
pub gathered_listed : (us ls : List (List ℕ × List (List ℕ))) (ps : List PolicyParts) → HaveOwnKeys us
    → grown_by ls (gathered us ps) ≡ all_listed (grown_by ls us) ps
gathered_listed us ls [] h = refl
gathered_listed us ls (p ∷ ps) h =
    gathered_listed (with_gathered p.template.id (policy_id p) us) ls ps
    (own_gathered p.template.id (policy_id p) us h)
    ∙ ap (λ xs. all_listed xs ps) (grown_gathered p.template.id (policy_id p) us ls h)

-- ---- Policies that use none of the bodies

-- Whether the policies that fail a test use none of these keys.
abbrev pub AreSkipped : (PolicyParts → Bool) → List (List ℕ) → List PolicyParts → Type 0
AreSkipped x ks [] = Unit {0}
AreSkipped x ks (p ∷ ps) = (x p ≡ false → list_any (same_text p.template.id) ks ≡ false) × AreSkipped x ks ps

skipped_at : (v : Bool) (ls xs : List (List ℕ × List (List ℕ))) (p : PolicyParts) (qs ps : List PolicyParts)
    → (v ≡ false → list_any (same_text p.template.id) (keys_of ls) ≡ false)
    → all_listed (with_listed p.template.id (policy_id p) ls) qs ≡ xs
    → all_listed ls (cond v (p ∷ qs) qs) ≡ xs
skipped_at true ls xs p qs ps n ih = ih
skipped_at false ls xs p qs ps n ih =
    ap (λ xs. all_listed xs qs)
    (sym (changed_none (same_text p.template.id) (λ ks. insert_key same_text ks (policy_id p)) ls (n refl))) ∙ ih

-- Such policies need not be listed.
skipped : (x : PolicyParts → Bool) (ls : List (List ℕ × List (List ℕ))) (ps : List PolicyParts)
    → AreSkipped x (keys_of ls) ps → all_listed ls (filter x ps) ≡ all_listed ls ps
skipped x ls [] h = refl
skipped x ls (p ∷ ps) h =
    let more = with_listed p.template.id (policy_id p) ls in
    skipped_at (x p) ls (all_listed more ps) p (filter x ps) ps h.0
    (skipped x more ps (subst (λ ks. AreSkipped x ks ps)
    (sym (changed_keys (same_text p.template.id) (λ ks. insert_key same_text ks (policy_id p)) ls)) h.1))

-- Appending ids to lists does not change the keys.
pub all_listed_keys : (ls : List (List ℕ × List (List ℕ))) (ps : List PolicyParts)
    → keys_of (all_listed ls ps) ≡ keys_of ls
all_listed_keys ls [] = refl
all_listed_keys ls (p ∷ ps) =
    all_listed_keys (with_listed p.template.id (policy_id p) ls) ps
    ∙ changed_keys (same_text p.template.id) (λ ks. insert_key same_text ks (policy_id p)) ls

-- ---- The skipped policies

once_before : {A : Type 0} (id : A → List ℕ) (xs ys : List A) → AreOnce id (xs ++ ys) → AreOnce id xs
once_before id [] ys h = tt
once_before id (x ∷ xs) ys h =
    ((or_parts _ _ (sym (list_any-append (is_at id (id x)) xs ys) ∙ h.0)).0, once_before id xs ys h.1)

neither : (a b : Bool) → a ≡ false → b ≡ false → (a || b) ≡ false
neither a b p q = cc

-- If the ids of bodies are not ids of some policies, they are not the id of the first policy.
free_one : (ts : List BodyParts) (p : PolicyParts) (ps : List PolicyParts) → HaveIdsFreeOf ts (p ∷ ps)
    → (list_any (is_body_at (policy_id p)) ts ≡ false) × HaveIdsFreeOf ts ps
free_one [] p ps h = (refl, tt)
free_one (t ∷ ts) p ps h =
    let n = or_parts _ _ h.0 in
    let r = free_one ts p ps h.1 in
    (neither _ _ (same_text_equiv.symm (policy_id p) t.id ∙ n.0) r.0, (n.1, r.1))

free_kept : (v : Bool) (t : BodyParts) (us : List BodyParts) (ps : List PolicyParts) → list_any (is_policy_at t.id) ps ≡ v
    → HaveIdsFreeOf us ps → HaveIdsFreeOf (cond (not v) (t ∷ us) us) ps
free_kept true t us ps n h = h
free_kept false t us ps n h = (n, h)

-- No policy has the id of a template.
templates_free : (ts : List BodyParts) (ps : List PolicyParts) → HaveIdsFreeOf (templates_in ps ts) ps
templates_free [] ps = tt
templates_free (t ∷ ts) ps =
    free_kept (list_any (is_policy_at t.id) ps) t (templates_in ps ts) ps refl (templates_free ts ps)

free_left : (v : Bool) (t : BodyParts) (us : List BodyParts) (ps : List PolicyParts)
    → list_any (is_policy_at t.id) ps ≡ false → HaveIdsFreeOf us ps → HaveIdsFreeOf (cond v (t ∷ us) us) ps
free_left true t us ps n h = (n, h)
free_left false t us ps n h = h

pub free_templates : (ts : List BodyParts) (qs ps : List PolicyParts) → HaveIdsFreeOf ts ps
    → HaveIdsFreeOf (templates_in qs ts) ps
free_templates [] qs ps h = tt
free_templates (t ∷ ts) qs ps h =
    free_left (not (list_any (is_policy_at t.id) qs)) t (templates_in qs ts) ps h.0 (free_templates ts qs ps h.1)

own_by : (o : Option (List ℕ)) (p : PolicyParts) → o ≡ p.link → is_some o ≡ false → policy_id p ≡ p.template.id
own_by None p e n = ap (λ o. unwrap_or o p.template.id) (sym e)
own_by (Some l) p e n = absurd (cc)

-- A static policy whose id no body has uses none of the bodies.
deep_copy_static : (ts : List BodyParts) (p : PolicyParts) → list_any (is_body_at (policy_id p)) ts ≡ false
    → is_some p.link ≡ false → list_any (same_text p.template.id) (map body_id ts) ≡ false
deep_copy_static ts p n e =
    any-map body_id (same_text p.template.id) ts
    ∙ ap (λ k. list_any (is_body_at k) ts) (sym (own_by p.link p refl e)) ∙ n

static_skipped : (ts : List BodyParts) (ps : List PolicyParts) → HaveIdsFreeOf ts ps
    → AreSkipped (λ p. is_some p.link) (map body_id ts) ps
static_skipped ts [] h = tt
static_skipped ts (p ∷ ps) h =
    let r = free_one ts p ps h in
    (deep_copy_static ts p r.0, static_skipped ts ps r.1)

elsewhere_at : (v w : Bool) (ks us : List (List ℕ)) (p : PolicyParts) → is_some p.link ≡ v
    → list_any (same_text p.template.id) ks ≡ w → (v && not w) ≡ false
    → (is_some p.link ≡ false → list_any (same_text p.template.id) us ≡ false)
    → (list_any (same_text p.template.id) ks ≡ true → list_any (same_text p.template.id) us ≡ false)
    → list_any (same_text p.template.id) us ≡ false
elsewhere_at false w ks us p e f n s k = s e
elsewhere_at true true ks us p e f n s k = k f
elsewhere_at true false ks us p e f n s k = absurd (cc)

-- A policy that is not a link, or a link whose template is among the first keys, uses none of the other bodies.
elsewhere_skipped : (ks : List (List ℕ)) (ts : List BodyParts) (ps : List PolicyParts) → HaveIdsFreeOf ts ps
    → ((k : List ℕ) → list_any (same_text k) ks ≡ true → list_any (same_text k) (map body_id ts) ≡ false)
    → AreSkipped (is_elsewhere ks) (map body_id ts) ps
elsewhere_skipped ks ts [] h n = tt
elsewhere_skipped ks ts (p ∷ ps) h n =
    let r = free_one ts p ps h in (
      (λ e. elsewhere_at (is_some p.link) (list_any (same_text p.template.id) ks) ks (map body_id ts) p refl refl e
          (deep_copy_static ts p r.0) (n p.template.id)),
      elsewhere_skipped ks ts ps r.1 n,
    )

apart_by : {A : Type 0} (id : A → List ℕ) (v : Bool) (k : List ℕ) (x : A) (ys : List A) → same_text k (id x) ≡ v
    → list_any (is_at id (id x)) ys ≡ false → list_any (is_at id k) ys ≡ true → v ≡ false
apart_by id true k x ys e n a =
    absurd (false≢true (sym n ∙ ap (λ i. list_any (is_at id i) ys) (sym ((same_text_decides k (id x)).0 e)) ∙ a))
apart_by id false k x ys e n a = refl

once_apart : {A : Type 0} (id : A → List ℕ) (xs ys : List A) (k : List ℕ) → AreOnce id (xs ++ ys)
    → list_any (is_at id k) ys ≡ true → list_any (is_at id k) xs ≡ false
once_apart id [] ys k h a = refl
once_apart id (x ∷ xs) ys k h a =
    let n = or_parts _ _ (sym (list_any-append (is_at id (id x)) xs ys) ∙ h.0) in
    let e = apart_by id (same_text k (id x)) k x ys refl n.1 a in
    neither _ _ e (once_apart id xs ys k h.1 a)

pub under_keys : (ts : List BodyParts) (ps : List PolicyParts) → keys_of (ids_by_body ts ps) ≡ map body_id ts
under_keys [] ps = refl
under_keys (t ∷ ts) ps = ap (λ ks. t.id ∷ ks) (under_keys ts ps)

listed_from : (ts : List BodyParts) (qs ps : List PolicyParts) → AreOnce body_id ts → AreOnce policy_id (qs ++ ps)
    → all_listed (ids_by_body ts qs) ps ≡ ids_by_body ts (qs ++ ps)
listed_from ts qs [] h g = sym (ap (ids_by_body ts) (append-nil qs))
listed_from ts qs (p ∷ ps) h g =
    let one = join_listed body_id policy_id own_body ts qs p h (before_at policy_id qs p ps g) in
    let more : (qs ++ p ∷ []) ++ ps ≡ qs ++ p ∷ ps = append_assoc qs (p ∷ []) ps in
    ap (λ ls. all_listed ls ps) one ∙ listed_from ts (qs ++ p ∷ []) ps h (subst (AreOnce policy_id) (sym more) g)
    ∙ ap (ids_by_body ts) more

-- Appending the id of each link to the empty lists of the new templates gives the lists of their links.
pub links_listed : (ts : List BodyParts) (ps : List PolicyParts) → AreOnce body_id ts → AreOnce policy_id ps
    → all_listed (ids_by_body (templates_in ps ts) []) (links_in ps) ≡ ids_by_body (templates_in ps ts) ps
links_listed ts ps h g =
    skipped (λ p. is_some p.link) (ids_by_body (templates_in ps ts) []) ps
    (subst (λ ks. AreSkipped (λ p. is_some p.link) ks ps) (sym (under_keys (templates_in ps ts) []))
    (static_skipped (templates_in ps ts) ps (templates_free ts ps)))
    ∙ listed_from (templates_in ps ts) [] ps (templates_once ts ps h) g

-- The lists of existing templates, with the collected ids appended, contain the old and the new links.
pub elsewhere_listed : (old new : List BodyParts) (qs ps : List PolicyParts) → AreOnce body_id (old ++ new)
    → AreOnce policy_id (qs ++ ps) → HaveIdsFreeOf old ps
    → grown_by (ids_by_body old qs) (gathered [] (elsewhere_in (map body_id new) ps)) ≡ ids_by_body old (qs ++ ps)
elsewhere_listed old new qs ps h g f =
    gathered_listed [] (ids_by_body old qs) (elsewhere_in (map body_id new) ps) tt
    ∙ skipped (is_elsewhere (map body_id new)) (ids_by_body old qs) ps
    (subst (λ ks. AreSkipped (is_elsewhere (map body_id new)) ks ps) (sym (under_keys old qs))
    (elsewhere_skipped (map body_id new) old ps f
    (λ k a. any-map body_id (same_text k) old
    ∙ once_apart body_id old new k h (sym (any-map body_id (same_text k) new) ∙ a))))
    ∙ listed_from old qs ps (once_before body_id old new h) g
