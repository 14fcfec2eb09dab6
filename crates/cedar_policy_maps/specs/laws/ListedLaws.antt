-- Maps whose keys are the ids of their values, and the changes of lists of ids when a value is added or removed.
use Rattle.std.specs.Prelude.{◌≡◌, ℕ, List, [], ◌∷◌, ◌++◌, Bool, true, false, not, ◌||◌, Some, refl, map, if◌then◌else◌}
use Rattle.std.proofs.Common.{cond, sym, ap, ◌∙◌}
use Rattle.std.specs.List.{filter, find, list_any}
use Rattle.std.specs.Map.{keys_of, values_of, lookup, remove_entry}
use Rattle.std.specs.Set.{remove_key}
use Rattle.indexmap.specs.IndexSet.{insert_key}
use Rattle.std.proofs.lemmas.Bool.{or_parts, false≢true}
use Rattle.std.proofs.lemmas.List.{map-append, append-nil}
use Rattle.std.proofs.lemmas.List.Elements.{filter-append}
use Rattle.cedar_ids.specs.Texts.{same_text}
use Rattle.cedar_ids.specs.laws.TextLaws.{same_text_equiv}
use Rattle.cedar_policy_maps.specs.PolicySets.{AreOnce}
use Rattle.cedar_policy_maps.specs.laws.OnceLaws.{is_at, no_other, filter_none, any-filter_none, any-map}

-- The lists with another list for the first key that passes a test.
abbrev pub changed : (List ℕ → Bool) → (List (List ℕ) → List (List ℕ)) → List (List ℕ × List (List ℕ))
    → List (List ℕ × List (List ℕ))
changed test f [] = []
changed test f (e ∷ es) = if test e.0 then (e.0, f e.1) ∷ es else e ∷ changed test f es

-- The lists with an id appended to the list under a key.
abbrev pub with_listed : List ℕ → List ℕ → List (List ℕ × List (List ℕ)) → List (List ℕ × List (List ℕ))
with_listed under i es = changed (same_text under) (λ ks. insert_key same_text ks i) es

abbrev pub without_listed : List ℕ → List ℕ → List (List ℕ × List (List ℕ)) → List (List ℕ × List (List ℕ))
without_listed under i es = changed (same_text under) (remove_key (same_text i)) es

-- Whether each key is the id of its value.
abbrev pub IsKeyed : {V : Type 0} → (V → List ℕ) → List (List ℕ × V) → Type 0
IsKeyed id es = keys_of es ≡ map id (values_of es)

module _ {V : Type 0} (id : V → List ℕ) where
  -- A lookup by key is a search among the values.
  pub lookup_is : (t : List ℕ → Bool) (es : List (List ℕ × V)) → IsKeyed id es
      → lookup t es ≡ find (λ v. t (id v)) (values_of es)
  lookup_is t [] h = refl
  lookup_is t (e ∷ es) h =
      let k : e.0 ≡ id e.1 = cc in
      let r : IsKeyed id es = cc in
      rw k (ap (cond (t (id e.1)) (Some e.1)) (lookup_is t es r))

  pub keyed_last : (es : List (List ℕ × V)) (k : List ℕ) (v : V) → IsKeyed id es → k ≡ id v
      → IsKeyed id (es ++ (k, v) ∷ [])
  keyed_last [] k v h q = ap (λ x. x ∷ []) q
  keyed_last (e ∷ es) k v h q =
      let a : e.0 ≡ id e.1 = cc in
      let r : IsKeyed id es = cc in
      let l = keyed_last es k v r q in cc

  keyed_at : (v : Bool) (e : List ℕ × V) (es gs : List (List ℕ × V)) → e.0 ≡ id e.1 → IsKeyed id es → IsKeyed id gs
      → IsKeyed id (cond v es (e ∷ gs))
  keyed_at true e es gs k h g = h
  keyed_at false e es gs k h g = cc

  pub keyed_removed : (t : List ℕ → Bool) (es : List (List ℕ × V)) → IsKeyed id es → IsKeyed id (remove_entry t es)
  keyed_removed t [] h = refl
  keyed_removed t (e ∷ es) h =
      let a : e.0 ≡ id e.1 = cc in
      let r : IsKeyed id es = cc in
      keyed_at (t e.0) e es (remove_entry t es) a r (keyed_removed t es r)

  left_at : (w : Bool) (e : List ℕ × V) (es gs : List (List ℕ × V)) (vs : List V) → (w ≡ true → vs ≡ values_of es)
      → values_of gs ≡ vs → values_of (cond w es (e ∷ gs)) ≡ cond (not w) (e.1 ∷ vs) vs
  left_at true e es gs vs n h = sym (n refl)
  left_at false e es gs vs n h = ap (λ x. e.1 ∷ x) h

  -- The values after an entry is removed.
  pub values_removed : (i : List ℕ) (es : List (List ℕ × V)) → IsKeyed id es → AreOnce id (values_of es)
      → values_of (remove_entry (same_text i) es) ≡ filter (λ v. not (is_at id i v)) (values_of es)
  values_removed i [] h o = refl
  values_removed i (e ∷ es) h o =
      let k : e.0 ≡ id e.1 = cc in
      let r : IsKeyed id es = cc in
      ap (λ x. values_of (cond (same_text i x) es (e ∷ remove_entry (same_text i) es))) k
      ∙ left_at (is_at id i e.1) e es (remove_entry (same_text i) es) (filter (λ v. not (is_at id i v)) (values_of es))
      (λ q. filter_none (is_at id i) (values_of es) (no_other id i e.1 (values_of es) o q)) (values_removed i es r o.1)

module _ {T P : Type 0} (tid : T → List ℕ) (pid on : P → List ℕ) where
  -- The ids of the elements that use an id.
  abbrev pub ids_on : List ℕ → List P → List (List ℕ)
  ids_on i ps = map pid (filter (λ p. same_text i (on p)) ps)

  abbrev pub under_each : List T → List P → List (List ℕ × List (List ℕ))
  under_each ts ps = map (λ t. (tid t, ids_on (tid t) ps)) ts

  pub none_on : (i : List ℕ) (ps : List P) → list_any (λ p. same_text i (on p)) ps ≡ false → ids_on i ps ≡ []
  none_on i [] h = refl
  none_on i (p ∷ ps) h =
      ap (λ v. map pid (cond v (p ∷ filter (λ p. same_text i (on p)) ps) (filter (λ p. same_text i (on p)) ps)))
      (or_parts _ _ h).0 ∙ none_on i ps (or_parts _ _ h).1

  one_on : (i : List ℕ) (p : P) (v : Bool) → same_text i (on p) ≡ v → ids_on i (p ∷ []) ≡ cond v (pid p ∷ []) []
  one_on i p true h = ap (λ v. map pid (cond v (p ∷ []) [])) h
  one_on i p false h = ap (λ v. map pid (cond v (p ∷ []) [])) h

  on_last : (i : List ℕ) (ps : List P) (p : P) → ids_on i (ps ++ p ∷ []) ≡ ids_on i ps ++ ids_on i (p ∷ [])
  on_last i ps p = ap (map pid) (filter-append (λ p. same_text i (on p)) ps (p ∷ []))
      ∙ map-append pid (filter (λ p. same_text i (on p)) ps) (filter (λ p. same_text i (on p)) (p ∷ []))

  pub joined_on : (i : List ℕ) (ps : List P) (p : P) → same_text i (on p) ≡ true
      → ids_on i (ps ++ p ∷ []) ≡ ids_on i ps ++ pid p ∷ []
  joined_on i ps p h = on_last i ps p ∙ ap (λ x. ids_on i ps ++ x) (one_on i p true h)

  pub not_joined_on : (i : List ℕ) (ps : List P) (p : P) → same_text i (on p) ≡ false
      → ids_on i (ps ++ p ∷ []) ≡ ids_on i ps
  not_joined_on i ps p h = on_last i ps p ∙ ap (λ x. ids_on i ps ++ x) (one_on i p false h) ∙ append-nil (ids_on i ps)

  -- Adding an element that uses no listed body does not change the lists.
  pub not_joined : (ts : List T) (ps : List P) (p : P) → list_any (is_at tid (on p)) ts ≡ false
      → under_each ts (ps ++ p ∷ []) ≡ under_each ts ps
  not_joined [] ps p h = refl
  not_joined (t ∷ ts) ps p h =
      let n = or_parts _ _ h in
      λ j. (tid t, not_joined_on (tid t) ps p (same_text_equiv.symm (tid t) (on p) ∙ n.0) j) ∷ not_joined ts ps p n.1 j

  absent_on : (i j : List ℕ) (ps : List P) → list_any (is_at pid i) ps ≡ false
      → list_any (same_text i) (ids_on j ps) ≡ false
  absent_on i j ps h = any-map pid (same_text i) (filter (λ p. same_text j (on p)) ps)
      ∙ any-filter_none (λ p. same_text j (on p)) (is_at pid i) ps h

  pub pushed_on : (i j : List ℕ) (ps : List P) → list_any (is_at pid i) ps ≡ false
      → insert_key same_text (ids_on j ps) i ≡ ids_on j ps ++ i ∷ []
  pushed_on i j ps h = ap (λ v. cond v (ids_on j ps) (ids_on j ps ++ i ∷ [])) (absent_on i j ps h)

  join_at : (v : Bool) (t : T) (ts : List T) (ps : List P) (p : P) → same_text (on p) (tid t) ≡ v
      → list_any (is_at pid (pid p)) ps ≡ false
      → (v ≡ true → list_any (is_at tid (on p)) ts ≡ false)
      → with_listed (on p) (pid p) (under_each ts ps) ≡ under_each ts (ps ++ p ∷ [])
      → cond v ((tid t, insert_key same_text (ids_on (tid t) ps) (pid p)) ∷ under_each ts ps)
      ((tid t, ids_on (tid t) ps) ∷ with_listed (on p) (pid p) (under_each ts ps))
      ≡ under_each (t ∷ ts) (ps ++ p ∷ [])
  join_at true t ts ps p e n o ih =
      let one : insert_key same_text (ids_on (tid t) ps) (pid p) ≡ ids_on (tid t) (ps ++ p ∷ []) =
      pushed_on (pid p) (tid t) ps n ∙ sym (joined_on (tid t) ps p (same_text_equiv.symm (tid t) (on p) ∙ e)) in
      λ j. (tid t, one j) ∷ sym (not_joined ts ps p (o refl)) j
  join_at false t ts ps p e n o ih =
      λ j. (tid t, sym (not_joined_on (tid t) ps p (same_text_equiv.symm (tid t) (on p) ∙ e)) j) ∷ ih j

  -- Adding an element appends its id to the list of the body that it uses.
  pub join_listed : (ts : List T) (ps : List P) (p : P) → AreOnce tid ts → list_any (is_at pid (pid p)) ps ≡ false →
      with_listed (on p) (pid p) (under_each ts ps) ≡ under_each ts (ps ++ p ∷ [])
  join_listed [] ps p h n = refl
  join_listed (t ∷ ts) ps p h n =
      join_at (same_text (on p) (tid t)) t ts ps p refl n (no_other tid (on p) t ts h) (join_listed ts ps p h.1 n)

  -- Adding a body that nothing uses appends an empty list.
  pub body_listed : (ts : List T) (ps : List P) (t : T) → list_any (λ p. same_text (tid t) (on p)) ps ≡ false
      → under_each (ts ++ t ∷ []) ps ≡ under_each ts ps ++ (tid t, []) ∷ []
  body_listed ts ps t n = map-append (λ t. (tid t, ids_on (tid t) ps)) ts (t ∷ [])
      ∙ ap (λ ks. under_each ts ps ++ (tid t, ks) ∷ []) (none_on (tid t) ps n)

  -- Adding a body, and an element that uses it, appends one list: the id of the body, with the id of that element.
  pub both_listed : (ts : List T) (ps : List P) (t : T) (p : P) → on p ≡ tid t → list_any (is_at tid (tid t)) ts ≡ false
      → list_any (λ p. same_text (tid t) (on p)) ps ≡ false →
      under_each (ts ++ t ∷ []) (ps ++ p ∷ []) ≡ under_each ts ps ++ (tid t, pid p ∷ []) ∷ []
  both_listed ts ps t p e f n =
      let own : same_text (tid t) (on p) ≡ true = ap (same_text (tid t)) e ∙ same_text_equiv.refl (tid t) in
      let ks : ids_on (tid t) (ps ++ p ∷ []) ≡ pid p ∷ [] = joined_on (tid t) ps p own
      ∙ ap (λ x. x ++ pid p ∷ []) (none_on (tid t) ps n) in
      map-append (λ t. (tid t, ids_on (tid t) (ps ++ p ∷ []))) ts (t ∷ [])
      ∙ (λ j. not_joined ts ps p (ap (λ i. list_any (is_at tid i) ts) e ∙ f) j ++ (tid t, ks j) ∷ [])

  -- ---- Removals

  -- The first element with an id is the only one.
  on_removed_at : (v w : Bool) (i j : List ℕ) (p : P) (ps : List P) → same_text i (pid p) ≡ v → same_text j (on p) ≡ w
      → (v ≡ true → list_any (is_at pid i) ps ≡ false)
      → remove_key (same_text i) (ids_on j ps) ≡ ids_on j (filter (λ q. not (is_at pid i q)) ps)
      → remove_key (same_text i) (map pid (cond w (p ∷ filter (λ q. same_text j (on q)) ps)
      (filter (λ q. same_text j (on q)) ps))) ≡ ids_on j
      (cond (not v) (p ∷ filter (λ q. not (is_at pid i q)) ps) (filter (λ q. not (is_at pid i q)) ps))
  on_removed_at true true i j p ps e f o ih = ap (λ b. cond b (ids_on j ps)
      (pid p ∷ remove_key (same_text i) (ids_on j ps))) e ∙ sym (ap (ids_on j) (filter_none (is_at pid i) ps (o refl)))
  on_removed_at true false i j p ps e f o ih = ih
  on_removed_at false true i j p ps e f o ih =
      ap (λ b. cond b (ids_on j ps) (pid p ∷ remove_key (same_text i) (ids_on j ps))) e ∙ ap (λ x. pid p ∷ x) ih
      ∙ sym (ap (λ b. map pid (cond b (p ∷ filter (λ q. same_text j (on q)) (filter (λ q. not (is_at pid i q)) ps))
      (filter (λ q. same_text j (on q)) (filter (λ q. not (is_at pid i q)) ps)))) f)
  on_removed_at false false i j p ps e f o ih =
      ih ∙ sym (ap (λ b. map pid (cond b (p ∷ filter (λ q. same_text j (on q)) (filter (λ q. not (is_at pid i q)) ps))
      (filter (λ q. same_text j (on q)) (filter (λ q. not (is_at pid i q)) ps)))) f)

  pub on_removed : (i j : List ℕ) (ps : List P) → AreOnce pid ps
      → remove_key (same_text i) (ids_on j ps) ≡ ids_on j (filter (λ q. not (is_at pid i q)) ps)
  on_removed i j [] h = refl
  on_removed i j (p ∷ ps) h =
      on_removed_at (same_text i (pid p)) (same_text j (on p)) i j p ps refl refl (no_other pid i p ps h)
      (on_removed i j ps h.1)

  -- An element uses only one body, so its id is in no other list.
  elsewhere_at : (v w : Bool) (i j : List ℕ) (p q : P) (ps : List P) → same_text i (pid q) ≡ v → same_text j (on q) ≡ w
      → cond v (Some q) (find (is_at pid i) ps) ≡ Some p → same_text j (on p) ≡ false
      → (v ≡ true → list_any (is_at pid i) ps ≡ false)
      → (find (is_at pid i) ps ≡ Some p → list_any (same_text i) (ids_on j ps) ≡ false)
      → list_any (same_text i) (map pid (cond w (q ∷ filter (λ q. same_text j (on q)) ps)
      (filter (λ q. same_text j (on q)) ps))) ≡ false
  elsewhere_at true true i j p q ps e f g n o ih =
      let same : q ≡ p = cc in
      absurd (false≢true (sym n ∙ ap (λ (x : P). same_text j (on x)) (sym same) ∙ f))
  elsewhere_at true false i j p q ps e f g n o ih = absent_on i j ps (o refl)
  elsewhere_at false true i j p q ps e f g n o ih = ap (λ b. b || list_any (same_text i) (ids_on j ps)) e ∙ ih g
  elsewhere_at false false i j p q ps e f g n o ih = ih g

  elsewhere : (i j : List ℕ) (p : P) (ps : List P) → AreOnce pid ps → find (is_at pid i) ps ≡ Some p
      → same_text j (on p) ≡ false → list_any (same_text i) (ids_on j ps) ≡ false
  elsewhere i j p [] h g n = refl
  elsewhere i j p (q ∷ ps) h g n =
      elsewhere_at (same_text i (pid q)) (same_text j (on q)) i j p q ps refl refl g n (no_other pid i q ps h)
      (λ f. elsewhere i j p ps h.1 f n)

  none_removed_at : (v : Bool) (k : List ℕ) (ks gs : List (List ℕ)) → v ≡ false → gs ≡ ks → cond v ks (k ∷ gs) ≡ k ∷ ks
  none_removed_at true k ks gs e h = absurd (cc)
  none_removed_at false k ks gs e h = ap (λ x. k ∷ x) h

  none_removed : (t : List ℕ → Bool) (ks : List (List ℕ)) → list_any t ks ≡ false → remove_key t ks ≡ ks
  none_removed t [] h = refl
  none_removed t (k ∷ ks) h = none_removed_at (t k) k ks (remove_key t ks) (or_parts _ _ h).0
      (none_removed t ks (or_parts _ _ h).1)

  stays_on : (i j : List ℕ) (p : P) (ps : List P) → AreOnce pid ps → find (is_at pid i) ps ≡ Some p
      → same_text j (on p) ≡ false → ids_on j (filter (λ q. not (is_at pid i q)) ps) ≡ ids_on j ps
  stays_on i j p ps h g n = sym (on_removed i j ps h) ∙ none_removed (same_text i) (ids_on j ps)
      (elsewhere i j p ps h g n)

  all_stay : (ts : List T) (i : List ℕ) (p : P) (ps : List P) → AreOnce pid ps → find (is_at pid i) ps ≡ Some p
      → list_any (is_at tid (on p)) ts ≡ false →
      under_each ts (filter (λ q. not (is_at pid i q)) ps) ≡ under_each ts ps
  all_stay [] i p ps h g n = refl
  all_stay (t ∷ ts) i p ps h g n =
      let m = or_parts _ _ n in
      λ j. (
        tid t,
        stays_on i (tid t) p ps h g (same_text_equiv.symm (tid t) (on p)
            ∙ m.0) j,
      ) ∷ all_stay ts i p ps h g m.1 j

  leave_at : (v : Bool) (t : T) (ts : List T) (i : List ℕ) (p : P) (ps : List P) → same_text (on p) (tid t) ≡ v
      → AreOnce pid ps → find (is_at pid i) ps ≡ Some p
      → (v ≡ true → list_any (is_at tid (on p)) ts ≡ false)
      → without_listed (on p) i (under_each ts ps) ≡ under_each ts (filter (λ q. not (is_at pid i q)) ps)
      → cond v ((tid t, remove_key (same_text i) (ids_on (tid t) ps)) ∷ under_each ts ps)
      ((tid t, ids_on (tid t) ps) ∷ without_listed (on p) i (under_each ts ps))
      ≡ under_each (t ∷ ts) (filter (λ q. not (is_at pid i q)) ps)
  leave_at true t ts i p ps e h g o ih = λ j. (tid t, on_removed i (tid t) ps h j) ∷ sym
      (all_stay ts i p ps h g (o refl)) j
  leave_at false t ts i p ps e h g o ih = λ j. (
    tid t,
    sym
        (stays_on i (tid t) p ps h g (same_text_equiv.symm (tid t) (on p) ∙ e)) j,
  ) ∷ ih j

  -- Removing an element removes its id from the list of the body that it uses.
  pub leave_listed : (ts : List T) (i : List ℕ) (p : P) (ps : List P) → AreOnce tid ts → AreOnce pid ps
      → find (is_at pid i) ps ≡ Some p →
      without_listed (on p) i (under_each ts ps) ≡ under_each ts (filter (λ q. not (is_at pid i q)) ps)
  leave_listed [] i p ps h o g = refl
  leave_listed (t ∷ ts) i p ps h o g =
      leave_at (same_text (on p) (tid t)) t ts i p ps refl o g (no_other tid (on p) t ts h)
      (leave_listed ts i p ps h.1 o g)

  out_at : (w : Bool) (t : T) (ts us : List T) (ps : List P) (gs : List (List ℕ × List (List ℕ))) → (w ≡ true → us ≡ ts)
      → gs ≡ under_each us ps
      → cond w (under_each ts ps) ((tid t, ids_on (tid t) ps) ∷ gs) ≡ under_each (cond (not w) (t ∷ us) us) ps
  out_at true t ts us ps gs n h = ap (λ (xs : List T). under_each xs ps) (sym (n refl))
  out_at false t ts us ps gs n h = ap (λ x. (tid t, ids_on (tid t) ps) ∷ x) h

  -- Removing a body removes its list.
  pub body_unlisted : (i : List ℕ) (ts : List T) (ps : List P) → AreOnce tid ts
      → remove_entry (same_text i) (under_each ts ps) ≡ under_each (filter (λ t. not (is_at tid i t)) ts) ps
  body_unlisted i [] ps h = refl
  body_unlisted i (t ∷ ts) ps h =
      out_at (is_at tid i t) t ts (filter (λ t. not (is_at tid i t)) ts) ps
      (remove_entry (same_text i) (under_each ts ps)) (λ q. filter_none (is_at tid i) ts (no_other tid i t ts h q))
      (body_unlisted i ts ps h.1)
