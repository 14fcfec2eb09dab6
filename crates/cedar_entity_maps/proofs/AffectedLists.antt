-- Insertions, lists and removals at one uid or one entity after another.
use Rattle.std.specs.Prelude.{◌≡◌, Bool, true, false, cond, ◌&&◌, ◌||◌, List, [], ◌∷◌, ◌++◌, Option, Some, None}
use Rattle.std.specs.Prelude.{not}
use Rattle.std.proofs.Common.{ap, sym, refl, ◌∙◌}
use Rattle.std.proofs.lemmas.Bool.{false≢true}
use Rattle.std.proofs.lemmas.List.Folds.{list_any-append}
use Rattle.std.specs.List.{AllByRecursion, list_any}
use Rattle.std.specs.Map.{lookup}
use Rattle.std.specs.Option.{option_map, is_some}
use Rattle.std.specs.Set.{is_member}
use Rattle.cedar_ids.specs.UidOf.{same_uid, uid_order}
use Rattle.cedar_ids.specs.laws.UidOfLaws.{same_uid_decides, same_uid_equiv, uid_order_total}
use Rattle.cedar_ids.specs.declared.entity.EntityUID.{EntityUID}
use Rattle.cedar_entity.specs.View.{EntityView}
use Rattle.cedar_entity.specs.declared.node.SharedEntity.{SharedEntity}
use Rattle.cedar_entity_maps.specs.laws.Edits.{stripped, bared}
use Rattle.cedar_entity_maps.specs.Modes.{is_ancestor_in}
use Rattle.cedar_entity_maps.specs.laws.EntityMap.{shared}
use Rattle.cedar_entity_maps.specs.laws.StaleUids.{IsWhole, is_lost, loses, loses_uid, left_by}
use Rattle.cedar_entity_maps.specs.declared.affected.StaleAncestors.{StaleAncestors}
use Rattle.cedar_entity_maps.specs.laws.Lists.{member_push}
use Rattle.std.specs.FinSet as set
use Rattle.cedar_uid_sets.specs.UidSets.{UidValues}
use Rattle.cedar_uid_sets.specs.laws.Sets.{one_equal}
use Rattle.cedar_entity.specs.laws.UidSets.{kept_in}
use Rattle.std.proofs.Math.Bool.{and-false}
use Rattle.cedar_entity_maps.specs.laws.AnyOf.{all_retained, none_retained, retain_none}
use Rattle.cedar_entity_maps.specs.laws.StaleUidLaws.{loses_whole, still, or_off, and_on}

-- Removing uids in two steps is the same as removing them in one.
kept_twice : (c g h : Bool) → ((c && not g) && not h) ≡ (c && not (g || h))
kept_twice true true h = refl
kept_twice true false h = refl
kept_twice false g h = refl

pub retain_both : (s : UidValues) (g h : EntityUID → Bool)
    → set.retain (set.retain s (λ p. not (g p))) (λ p. not (h p)) ≡ set.retain s (λ p. not (g p || h p))
retain_both s g h = set.same_set uid_order_total one_equal _ _ (λ q.
    kept_in (set.retain s (λ p. not (g p))) h q ∙ ap (λ b. b && not (h q)) (kept_in s g q)
    ∙ kept_twice (set.contains s q) (g q) (h q) ∙ sym (kept_in s (λ p. g p || h p) q))

-- An entity of which nothing is removed.
pub stripped_nothing : (e : EntityView) → e ≡ stripped (is_member same_uid []) (is_member same_uid []) e
stripped_nothing e =
    λ i. record e { parents = sym (retain_none e.parents) i; indirect = sym (retain_none e.indirect) i }

pub stripped_both : (e : EntityView) (g l h m : EntityUID → Bool)
    → stripped h m (stripped g l e) ≡ stripped (λ p. g p || h p) (λ w. l w || m w) e
stripped_both e g l h m =
    λ j. record e { parents = retain_both e.parents g h j; indirect = retain_both e.indirect l m j }

or_itself : (b : Bool) → (b || b) ≡ b
or_itself true = refl
or_itself false = refl

pub or_both : (a b : Bool) → (a || b) ≡ (b || a)
or_both true true = refl
or_both true false = refl
or_both false true = refl
or_both false false = refl

added : (o d k : Bool) → cond k true (o || d) ≡ (o || (d || k))
added true d true = refl
added true d false = refl
added false true true = refl
added false true false = refl
added false false true = refl
added false false false = refl

-- One more uid is inserted.
pub noted_push : (first now new : Bool) (done : List EntityUID) (k q : EntityUID)
    → now ≡ (first || is_member same_uid done q) → new ≡ cond (same_uid k q) true now
    → new ≡ (first || is_member same_uid (done ++ k ∷ []) q)
noted_push first now new done k q so step =
    step ∙ ap (cond (same_uid k q) true) so ∙ added first (is_member same_uid done q) (same_uid k q)
    ∙ ap (λ b. first || b) (sym (member_push done k q))

-- If nothing is removed from each entity, nothing changes.
pub nothing_stripped : (none : EntityView → EntityView) → ((e : EntityView) → e ≡ none e) → (o : Option EntityView)
    → o ≡ option_map none o
nothing_stripped none is None = refl
nothing_stripped none is (Some e) = ap Some (is e)

grown : (D G : Bool) → ((D && G) || G) ≡ ((D || true) && G)
grown true G = or_itself G
grown false G = refl

grow : (G : EntityUID → Bool) (L l : EntityUID → Bool) (D b : Bool) (o : Option EntityView)
    → cond b (option_map (stripped G l) (option_map (stripped (λ p. D && G p) L) o))
    (option_map (stripped (λ p. D && G p) L) o)
    ≡ option_map (stripped (λ p. (D || (b || false)) && G p) (λ w. L w || ((b && l w) || false))) o
grow G L l D true None = refl
grow G L l D false None = refl
grow G L l D true (Some e) =
    ap Some (stripped_both e (λ p. D && G p) L G l
    ∙ λ i. stripped (λ p. grown D (G p) i) (λ w. L w || or_off (l w) i) e)
grow G L l D false (Some e) = λ i. Some (stripped (λ p. or_off D i && G p) (λ w. or_off (L w) i) e)

loses_push : (done : List StaleAncestors) (a : StaleAncestors) (q : EntityUID)
    → loses (done ++ a ∷ []) q ≡ (loses done q || same_uid a.uid q)
loses_push done a q =
    list_any-append (λ (x : StaleAncestors). same_uid q x.uid) done (a ∷ [])
    ∙ ap (λ b. loses done q || b) (sym (or_off (same_uid q a.uid)) ∙ sym (same_uid_equiv.symm a.uid q))

-- One more entity loses its stale ancestors.
pub loss_push : (G : EntityUID → Bool) (done : List StaleAncestors) (a : StaleAncestors) (first now new : Option EntityView) (q : EntityUID)
    → now ≡ option_map (stripped (λ p. loses done q && G p) (loses_uid done q)) first
    → new ≡ cond (same_uid a.uid q) (option_map (stripped G (is_lost a.lost)) now) now
    → new ≡ option_map (stripped (λ p. loses (done ++ a ∷ []) q && G p) (loses_uid (done ++ a ∷ []) q)) first
loss_push G done a first now new q so step =
    step ∙ ap (λ b. cond b (option_map (stripped G (is_lost a.lost)) now) now) (same_uid_equiv.symm a.uid q)
    ∙ ap (λ o. cond (same_uid q a.uid) (option_map (stripped G (is_lost a.lost)) o) o) so
    ∙ grow G (loses_uid done q) (is_lost a.lost) (loses done q) (same_uid q a.uid) first
    ∙ λ i. option_map (stripped
    (λ p. sym (list_any-append (λ (x : StaleAncestors). same_uid q x.uid) done (a ∷ [])) i && G p)
    (λ w. sym (list_any-append (λ (x : StaleAncestors). same_uid q x.uid && is_lost x.lost w) done (a ∷ [])) i)) first

-- One more entity is listed, or none.
pub listed_loss : (done : List StaleAncestors) (a : StaleAncestors) (key q : EntityUID) (b : Bool) → a.uid ≡ key → b ≡ true
    → loses (done ++ a ∷ []) q ≡ (loses done q || (same_uid key q && b))
listed_loss done a key q b is h =
    loses_push done a q ∙ ap (λ k. loses done q || same_uid k q) is
    ∙ ap (λ c. loses done q || c) (sym (ap (λ c. same_uid key q && c) h ∙ and_on (same_uid key q)))

pub unlisted_loss : (o k b : Bool) → b ≡ false → o ≡ (o || (k && b))
unlisted_loss true k b h = refl
unlisted_loss false true b h = sym h
unlisted_loss false false b h = refl

-- A key is found among the entries with one more.
pub seen_key : (es : List (EntityUID × SharedEntity)) (k : EntityUID) (n : SharedEntity) (q : EntityUID)
    → is_some (lookup (same_uid q) (es ++ (k, n) ∷ [])) ≡ (is_some (lookup (same_uid q) es) || same_uid k q)
seen_key [] k n q = at (same_uid q k) ∙ sym (same_uid_equiv.symm k q)
  where
    at : (b : Bool) → is_some (cond b (Some n) None) ≡ b
    at true = refl
    at false = refl
seen_key (e ∷ es) k n q = at (same_uid q e.0) (seen_key es k n q)
  where
    at : (b : Bool) → is_some (lookup (same_uid q) (es ++ (k, n) ∷ []))
        ≡ (is_some (lookup (same_uid q) es) || same_uid k q)
        → is_some (cond b (Some e.1) (lookup (same_uid q) (es ++ (k, n) ∷ [])))
        ≡ (is_some (cond b (Some e.1) (lookup (same_uid q) es)) || same_uid k q)
    at true h = refl
    at false h = h

hit : (d b : Bool) → ((d && true) || b) ≡ ((d || b) && true)
hit true b = refl
hit false true = refl
hit false false = refl

in_both : (d f b : Bool) → (b ≡ true → f ≡ true) → ((d && f) || b) ≡ ((d || b) && f)
in_both d true b h = hit d b
in_both true false true h = absurd (false≢true (h refl))
in_both true false false h = refl
in_both false false true h = absurd (false≢true (h refl))
in_both false false false h = refl

out_of : (d f b : Bool) → (b ≡ true → f ≡ false) → (d && f) ≡ ((d || b) && f)
out_of d f true h = ap (λ x. d && x) (h refl) ∙ none d ∙ sym (h refl) ∙ one d
  where
    none : (d : Bool) → (d && false) ≡ false
    none true = refl
    none false = refl

    one : (d : Bool) → f ≡ ((d || true) && f)
    one true = refl
    one false = refl
out_of true f false h = refl
out_of false f false h = refl

module _ (f : EntityUID → Bool) (es : List (EntityUID × SharedEntity)) (k : EntityUID) (n : SharedEntity)
    (q : EntityUID) (now : Bool)
    (so : now ≡ (is_some (lookup (same_uid q) es) && f q)) where
  -- One more key that passes is listed.
  pub listed_key : (new : Bool) → new ≡ (now || same_uid k q) → f k ≡ true
      → new ≡ (is_some (lookup (same_uid q) (es ++ (k, n) ∷ [])) && f q)
  listed_key new step hits =
      step ∙ ap (λ b. b || same_uid k q) so
      ∙ in_both (is_some (lookup (same_uid q) es)) (f q) (same_uid k q)
      (λ t. sym (ap f ((same_uid_decides k q).0 t)) ∙ hits)
      ∙ ap (λ b. b && f q) (sym (seen_key es k n q))

  -- A key that does not pass is not listed.
  pub unlisted_key : f k ≡ false → now ≡ (is_some (lookup (same_uid q) (es ++ (k, n) ∷ [])) && f q)
  unlisted_key misses =
      so ∙ out_of (is_some (lookup (same_uid q) es)) (f q) (same_uid k q)
      (λ t. sym (ap f ((same_uid_decides k q).0 t)) ∙ misses)
      ∙ ap (λ b. b && f q) (sym (seen_key es k n q))

-- One more key of the map, with or without stale ancestors.
pub key_case : (d f b h : Bool) → (b ≡ true → h ≡ f) → ((d && f) || (b && h)) ≡ ((d || b) && f)
key_case true true b h k = refl
key_case true false true h k = k refl
key_case true false false h k = refl
key_case false f true h k = k refl
key_case false f false h k = refl

-- A uid without an entity has no ancestors.
pub none_any : (us : List EntityUID) → false ≡ list_any (is_ancestor_in None) us
none_any [] = refl
none_any (u ∷ us) = none_any us

pub there_only_any : (o : Option SharedEntity) (us : List EntityUID)
    → (is_some o && list_any (is_ancestor_in (option_map shared o)) us)
    ≡ list_any (is_ancestor_in (option_map shared o)) us
there_only_any None us = none_any us
there_only_any (Some n) us = refl

-- Whether a member of one list is in the other is symmetric.
none_in : (xs : List EntityUID) → list_any (λ x. is_member same_uid [] x) xs ≡ false
none_in [] = refl
none_in (x ∷ xs) = none_in xs

or_swap : (a b c d : Bool) → ((a || b) || (c || d)) ≡ ((a || c) || (b || d))
or_swap true b c d = refl
or_swap false true true d = refl
or_swap false true false d = refl
or_swap false false c d = refl

split : (y : EntityUID) (ys xs : List EntityUID)
    → list_any (λ x. is_member same_uid (y ∷ ys) x) xs
    ≡ (is_member same_uid xs y || list_any (λ x. is_member same_uid ys x) xs)
split y ys [] = refl
split y ys (x ∷ xs) =
    ap (λ b. (same_uid x y || is_member same_uid ys x) || b) (split y ys xs)
    ∙ or_swap (same_uid x y) (is_member same_uid ys x) (is_member same_uid xs y)
    (list_any (λ z. is_member same_uid ys z) xs)
    ∙ ap (λ b. (b || is_member same_uid xs y)
    || (is_member same_uid ys x || list_any (λ z. is_member same_uid ys z) xs)) (same_uid_equiv.symm x y)

pub meet : (xs ys : List EntityUID) → list_any (is_member same_uid ys) xs ≡ list_any (is_member same_uid xs) ys
meet xs [] = none_in xs
meet xs (y ∷ ys) = split y ys xs ∙ ap (λ b. is_member same_uid xs y || b) (meet xs ys)

-- If an element of a list passes, the list has an element that passes.
pub any_with : {X : Type 0} (f : X → Bool) (xs : List X) (x : X) (ys : List X) → f x ≡ true
    → list_any f (xs ++ x ∷ ys) ≡ true
any_with f [] x ys h = ap (λ b. b || list_any f ys) h
any_with f (y ∷ xs) x ys h = ap (λ b. f y || b) (any_with f xs x ys h) ∙ end (f y)
  where
    end : (b : Bool) → (b || true) ≡ true
    end true = refl
    end false = refl

-- The entities after all indirect ancestors of the listed ones, and no parents, were removed.
pub forgot : (R : List StaleAncestors) → AllByRecursion IsWhole R → (none : UidValues) → none ≡ set.empty → (q : EntityUID)
    (b : Bool) → loses R q ≡ b → (o : Option EntityView)
    → option_map (left_by none R q) o ≡ cond b (option_map bared o) o
forgot R whole none is q true t None = refl
forgot R whole none is q true t (Some e) = λ i. Some (record e {
  parents = none_retained e.parents (λ p. loses R q && set.contains none p)
      (λ y _. ap (λ c. loses R q && c) (ap (λ s. set.contains s y) is ∙ set.contains-empty uid_order y)
      ∙ and-false (loses R q)) i;
  indirect = sym (all_retained e.indirect (loses_uid R q) (λ w. loses_whole R whole q w ∙ t)) i;
})
forgot R whole none is q false t o = still R whole none q t o
