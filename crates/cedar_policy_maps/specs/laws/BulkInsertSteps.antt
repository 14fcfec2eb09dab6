-- Lists of ids that grow: reserved space, and the content afterwards.
use Rattle.std.specs.Prelude.{◌≡◌, ◌≤◌, ℕ, List, [], ◌∷◌, ◌++◌, length, Bool, true, false, ◌||◌, Option, Some, None}
use Rattle.std.specs.Prelude.{refl, map}
use Rattle.std.proofs.Common.{cond, sym, ap, ◌∙◌, subst}
use Rattle.std.specs.List.{filter, list_any}
use Rattle.std.specs.Map.{keys_of, lookup}
use Rattle.std.proofs.lemmas.Bool.{or_parts}
use Rattle.std.proofs.lemmas.List.{map-append, append-nil, append_assoc}
use Rattle.std.proofs.lemmas.List.Folds.{list_any-append}
use Rattle.std.proofs.lemmas.List.Elements.{filter-append}
use Rattle.indexmap.specs.IndexMap.{insert_entry}
use Rattle.indexmap.specs.IndexMap as maps
use Rattle.indexmap.specs.IndexSet.{IndexSet, spare, insert_all}
use Rattle.cedar_ids.specs.Texts.{same_text}
use Rattle.cedar_ids.specs.laws.TextLaws.{same_text_equiv}
use Rattle.cedar_policy_maps.specs.PolicySets.{AreOnce}
use Rattle.cedar_policy_maps.specs.Maps.{lists_of}
use Rattle.cedar_policy_maps.specs.laws.ListedLaws.{changed, ids_on, under_each, none_on}
use Rattle.cedar_policy_maps.specs.laws.OnceLaws.{any-map}

-- Whether a set, if there is one, has space for `n` more ids.
abbrev pub HasRoom : {S : Type 0} → Option (IndexSet (List ℕ) S) → ℕ → Type 0
HasRoom None n = Unit {0}
HasRoom (Some s) n = n ≤ spare s

-- Whether all lists have space for the ids to append to each.
abbrev pub HaveRoom : {S : Type 0} → List (List ℕ × IndexSet (List ℕ) S) → List (List ℕ × List (List ℕ)) → Type 0
HaveRoom es [] = Unit {0}
HaveRoom es (a ∷ us) = HasRoom (lookup (same_text a.0) es) (length a.1) × HaveRoom es us

-- The lists with ids appended to each.
abbrev pub grown_by : List (List ℕ × List (List ℕ)) → List (List ℕ × List (List ℕ)) → List (List ℕ × List (List ℕ))
grown_by ls [] = ls
grown_by ls (a ∷ us) = grown_by (changed (same_text a.0) (λ ks. insert_all same_text ks a.1) ls) us

-- Whether no two entries have the same key.
abbrev pub HaveOwnKeys : {V : Type 0} → List (List ℕ × V) → Type 0
HaveOwnKeys es = AreOnce (λ (k : List ℕ). k) (keys_of es)

-- ---- Reserved space

module _ {S : Type 0} where
  pub room_more : (es : List (List ℕ × IndexSet (List ℕ) S)) (us : List (List ℕ
      × List (List ℕ))) (i : List ℕ) (ks : List (List ℕ)) →
      HaveRoom es us → HasRoom (lookup (same_text i) es) (length ks) → HaveRoom es (us ++ (i, ks) ∷ [])
  room_more es [] i ks h r = (r, tt)
  room_more es (u ∷ us) i ks h r = (h.0, room_more es us i ks h.1 r)

  -- The space is sufficient in other lists if no list has less space.
  pub room_kept : (es fs : List (List ℕ × IndexSet (List ℕ) S)) (us : List (List ℕ × List (List ℕ))) →
      ((k : List ℕ) (n : ℕ) → HasRoom (lookup (same_text k) es) n → HasRoom (lookup (same_text k) fs) n)
      → HaveRoom es us → HaveRoom fs us
  room_kept es fs [] k h = tt
  room_kept es fs (u ∷ us) k h = (k u.0 (length u.1) h.0, room_kept es fs us k h.1)

  -- The space is sufficient if only the list of another key changes.
  pub room_elsewhere : (es fs : List (List ℕ × IndexSet (List ℕ) S)) (us : List (List ℕ × List (List ℕ))) (i : List ℕ)
      → list_any (same_text i) (keys_of us) ≡ false →
      ((k : List ℕ) → same_text i k ≡ false → lookup (same_text k) fs ≡ lookup (same_text k) es) → HaveRoom es us
      → HaveRoom fs us
  room_elsewhere es fs [] i n k h = tt
  room_elsewhere es fs (u ∷ us) i n k h = (
    subst (λ (o : Option (IndexSet (List ℕ) S)). HasRoom o (length u.1)) (sym (k u.0 (or_parts _ _ n).0)) h.0,
    room_elsewhere es fs us i (or_parts _ _ n).1 k h.1,
  )

-- The keys of the lists are those of the sets.
pub listed_keys : {S : Type 0} (es : List (List ℕ × IndexSet (List ℕ) S)) → keys_of (lists_of es) ≡ keys_of es
listed_keys [] = refl
listed_keys (e ∷ es) = ap (λ ks. e.0 ∷ ks) (listed_keys es)

-- ---- Entries with new keys

neither : (a b : Bool) → a ≡ false → b ≡ false → (a || b) ≡ false
neither a b p q = cc

absent_before : (ks : List (List ℕ)) (k : List ℕ) (rest : List (List ℕ)) → AreOnce (λ (i : List ℕ). i) (ks ++ k ∷ rest)
    → list_any (same_text k) ks ≡ false
absent_before [] k rest h = refl
absent_before (j ∷ ks) k rest h =
    let n = or_parts _ _ (sym (list_any-append (same_text j) ks (k ∷ rest)) ∙ h.0) in
    neither _ _ (same_text_equiv.symm k j ∙ (or_parts _ _ n.1).0) (absent_before ks k rest h.1)

module _ {V : Type 0} where
  inserted_at : (v : Bool) (e : List ℕ × V) (es gs : List (List ℕ × V)) (k : List ℕ) (x : V) → v ≡ false
      → gs ≡ es ++ (k, x) ∷ [] → cond v ((e.0, x) ∷ es) (e ∷ gs) ≡ e ∷ es ++ (k, x) ∷ []
  inserted_at true e es gs k x n h = absurd (cc)
  inserted_at false e es gs k x n h = ap (λ fs. e ∷ fs) h

  inserted_last : (es : List (List ℕ × V)) (k : List ℕ) (x : V) → list_any (same_text k) (keys_of es) ≡ false
      → insert_entry same_text es k x ≡ es ++ (k, x) ∷ []
  inserted_last [] k x h = refl
  inserted_last (e ∷ es) k x h = inserted_at (same_text k e.0) e es (insert_entry same_text es k x) k x
      (or_parts _ _ h).0 (inserted_last es k x (or_parts _ _ h).1)

  keys-append : (es fs : List (List ℕ × V)) → keys_of (es ++ fs) ≡ keys_of es ++ keys_of fs
  keys-append es fs = map-append (λ (e : List ℕ × V). e.0) es fs

  -- Inserting entries with new keys appends them.
  pub all_last : (es fs : List (List ℕ × V)) → HaveOwnKeys (es ++ fs) → maps.insert_all same_text es fs ≡ es ++ fs
  all_last es [] h = sym (append-nil es)
  all_last es (f ∷ fs) h =
      let more : (es ++ f ∷ []) ++ fs ≡ es ++ f ∷ fs = append_assoc es (f ∷ []) fs in
      let new : list_any (same_text f.0) (keys_of es) ≡ false =
      absent_before (keys_of es) f.0 (keys_of fs)
      (subst (AreOnce (λ (i : List ℕ). i)) (keys-append es (f ∷ fs)) h) in
      ap (λ gs. maps.insert_all same_text gs fs) (inserted_last es f.0 f.1 new)
      ∙ all_last (es ++ f ∷ []) fs (subst HaveOwnKeys (sym more) h) ∙ more

-- Values with different ids have different keys.
once_keys : {W : Type 0} (id : W → List ℕ) (xs : List W) → AreOnce id xs → AreOnce (λ (k : List ℕ). k) (map id xs)
once_keys id [] h = tt
once_keys id (x ∷ xs) h = (any-map id (same_text (id x)) xs ∙ h.0, once_keys id xs h.1)

pub own_keys : {V W : Type 0} (id : W → List ℕ) (es fs : List (List ℕ × V)) (xs ys : List W) → keys_of es ≡ map id xs
    → keys_of fs ≡ map id ys → AreOnce id (xs ++ ys) → HaveOwnKeys (es ++ fs)
own_keys id es fs xs ys p q h =
    subst (AreOnce (λ (k : List ℕ). k)) (sym (keys-append es fs ∙ (λ j. p j ++ q j)
    ∙ sym (map-append id xs ys))) (once_keys id (xs ++ ys) h)

-- Changing a list does not change the keys.
changed_keys_at : (v : Bool) (f : List (List ℕ) → List (List ℕ)) (e : List ℕ
    × List (List ℕ)) (es gs : List (List ℕ × List (List ℕ))) → keys_of gs ≡ keys_of es
    → keys_of (cond v ((e.0, f e.1) ∷ es) (e ∷ gs)) ≡ e.0 ∷ keys_of es
changed_keys_at true f e es gs h = refl
changed_keys_at false f e es gs h = ap (λ ks. e.0 ∷ ks) h

pub changed_keys : (test : List ℕ → Bool) (f : List (List ℕ) → List (List ℕ)) (es : List (List ℕ × List (List ℕ)))
    → keys_of (changed test f es) ≡ keys_of es
changed_keys test f [] = refl
changed_keys test f (e ∷ es) = changed_keys_at (test e.0) f e es (changed test f es) (changed_keys test f es)

pub grown_keys : (ls us : List (List ℕ × List (List ℕ))) → keys_of (grown_by ls us) ≡ keys_of ls
grown_keys ls [] = refl
grown_keys ls (u ∷ us) = grown_keys (changed (same_text u.0) (λ ks. insert_all same_text ks u.1) ls) us
    ∙ changed_keys (same_text u.0) (λ ks. insert_all same_text ks u.1) ls

-- ---- Lists of the ids of bodies

module _ {T P : Type 0} (tid : T → List ℕ) (pid on : P → List ℕ) where
  -- The ids that use an id, among the elements of two lists.
  pub on_both : (i : List ℕ) (qs ps : List P) → ids_on tid pid on i (qs ++ ps)
      ≡ ids_on tid pid on i qs ++ ids_on tid pid on i ps
  on_both i qs ps = ap (map pid) (filter-append (λ p. same_text i (on p)) qs ps)
      ∙ map-append pid (filter (λ p. same_text i (on p)) qs) (filter (λ p. same_text i (on p)) ps)

  -- Whether no element uses one of these bodies.
  abbrev pub AreBare : List T → List P → Type 0
  AreBare [] qs = Unit {0}
  AreBare (t ∷ ts) qs = (list_any (λ p. same_text (tid t) (on p)) qs ≡ false) × AreBare ts qs

  pub all_new : (ts : List T) (qs ps : List P) → AreBare ts qs
      → under_each tid pid on ts (qs ++ ps) ≡ under_each tid pid on ts ps
  all_new [] qs ps h = refl
  all_new (t ∷ ts) qs ps h =
      λ j. (
        tid t,
        (on_both (tid t) qs ps ∙ ap (λ ks. ks
            ++ ids_on tid pid on (tid t) ps) (none_on tid pid on (tid t) qs h.0)) j,
      ) ∷ all_new ts qs ps h.1 j
