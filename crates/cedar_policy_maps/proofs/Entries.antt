-- Appending entries and changing lists.
use Rattle.std.specs.Prelude.{◌≡◌, ℕ, ◌+◌, ◌<◌, suc, length, List, [], ◌∷◌, ◌++◌, Bool, true, false, not, ◌||◌, ◌&&◌}
use Rattle.std.specs.Prelude.{Option, Some, None, IfSome, refl, map, is_some}
use Rattle.std.proofs.Common.{cond, sym, ap, ◌∙◌, subst, take, drop, get_or, Bor}
use Rattle.std.specs.List.{filter, find, list_any, AllByRecursion, AllZip, IsDistinct}
use Rattle.std.specs.Map.{keys_of, values_of, lookup, set_value, remove_entry}
use Rattle.std.specs.Option.{option_map, option_copied}
use Rattle.std.specs.declared.rc.Rc.{Rc}
use Rattle.std.specs.declared.alloc.Global.{Global}
use Rattle.std.proofs.lemmas.Bool.{or_parts, false≢true}
use Rattle.std.proofs.lemmas.List.{map-append, append_assoc, append-nil}
use Rattle.std.proofs.lemmas.List.Elements.{filter-append}
use Rattle.std.proofs.lemmas.List.Sums.{fold-append}
use Rattle.std.proofs.lemmas.Map.Made.{lookup-map_values}
use Rattle.indexmap.specs.IndexSet.{IndexSet, insert_key}
use Rattle.cedar_ids.specs.Texts.{same_text}
use Rattle.cedar_body.specs.Bodies.{BodyParts}
use Rattle.cedar_policy.specs.Policies.{PolicyParts, policy_id}
use Rattle.cedar_policy_maps.specs.PolicySets.{SetParts, AreOnce, bound_at, is_bound, is_body_at}
use Rattle.cedar_policy_maps.specs.PolicySets.{is_policy_at, template_bound}
use Rattle.cedar_policy_maps.specs.Lists.{ids_in, is_on}
use Rattle.cedar_policy_maps.specs.Maps.{Maps, shared_of, lists_of, set_in, ids_by_body, templates_in, DoAgree}
use Rattle.cedar_policy_maps.specs.Views.{bodies_of}
use Rattle.cedar_policy_maps.specs.laws.SetLaws.{no_body_at, no_policy_at, template_among}
use Rattle.cedar_policy_maps.specs.laws.ListedLaws.{changed, with_listed, IsKeyed, lookup_is, keyed_last}
use Rattle.cedar_policy_maps.specs.laws.GatherLaws.{with_gathered, gathered, gathered_unless, links_in, is_elsewhere}
use Rattle.cedar_policy_maps.specs.laws.GatherLaws.{elsewhere_in}
use Rattle.cedar_policy_maps.specs.laws.BulkInsertSteps.{listed_keys}
use Rattle.cedar_policy_maps.specs.laws.Walks.{parted, bodies_more, policies_more}
use Rattle.cedar_policy_maps.specs.laws.MapLaws.{listed_at, all_listed, link_ids}
use Rattle.cedar_policy_maps.specs.laws.TemplateLaws.{template_found}
use Rattle.cedar_policy_maps.specs.laws.OnceLaws.{is_at, before_at, find-unless, any-filter_none, any-map}

unchanged_at : (v : Bool) (e : List ℕ × List (List ℕ)) (es gs : List (List ℕ × List (List ℕ))) → gs ≡ es
    → cond v ((e.0, e.1) ∷ es) (e ∷ gs) ≡ e ∷ es
unchanged_at true e es gs h = refl
unchanged_at false e es gs h = ap (λ xs. e ∷ xs) h

changed-same : (test : List ℕ → Bool) (es : List (List ℕ × List (List ℕ))) → changed test (λ ks. ks) es ≡ es
changed-same test [] = refl
changed-same test (e ∷ es) = unchanged_at (test e.0) e es (changed test (λ ks. ks) es) (changed-same test es)

module _ {S : Type 0} where
  changed_at : (v : Bool) (test : List ℕ → Bool) (f : List (List ℕ) → List (List ℕ)) (e : List ℕ × IndexSet (List ℕ) S)
      (es gs : List (List ℕ × IndexSet (List ℕ) S)) (s w : IndexSet (List ℕ) S)
      → cond v (Some e.1) (lookup test es) ≡ Some s → w.keys ≡ f s.keys
      → (lookup test es ≡ Some s → lists_of gs ≡ changed test f (lists_of es))
      → lists_of (cond v ((e.0, w) ∷ es) (e ∷ gs))
      ≡ cond v ((e.0, f e.1.keys) ∷ lists_of es) ((e.0, e.1.keys) ∷ changed test f (lists_of es))
  changed_at true test f e es gs s w l k ih =
      let same : e.1 ≡ s = cc in
      ap (λ ks. (e.0, ks) ∷ lists_of es) (k ∙ ap (λ (t : IndexSet (List ℕ) S). f t.keys) (sym same))
  changed_at false test f e es gs s w l k ih = ap (λ xs. (e.0, e.1.keys) ∷ xs) (ih l)

  -- A set that is changed through a mutable borrow changes the list under its key.
  pub written : (test : List ℕ → Bool) (f : List (List ℕ) → List (List ℕ)) (es : List (List ℕ × IndexSet (List ℕ) S))
      (s w : IndexSet (List ℕ) S)
      → lookup test es ≡ Some s → w.keys ≡ f s.keys → lists_of (set_value test es w) ≡ changed test f (lists_of es)
  written test f [] s w l k = absurd (cc)
  written test f (e ∷ es) s w l k =
      changed_at (test e.0) test f e es (set_value test es w) s w l k (λ m. written test f es s w m k)

  same_at : (v : Bool) (test : List ℕ → Bool) (f : List (List ℕ) → List (List ℕ)) (e : List ℕ × IndexSet (List ℕ) S)
      (es : List (List ℕ × IndexSet (List ℕ) S))
      → cond v (Some e.1) (lookup test es) ≡ None → (lookup test es ≡ None → lists_of es ≡ changed test f (lists_of es))
      → (e.0, e.1.keys) ∷ lists_of es ≡ cond v ((e.0, f e.1.keys) ∷ lists_of es)
      ((e.0, e.1.keys) ∷ changed test f (lists_of es))
  same_at true test f e es l ih = absurd (cc)
  same_at false test f e es l ih = ap (λ xs. (e.0, e.1.keys) ∷ xs) (ih l)

  -- If there is no such key, nothing changes.
  pub unwritten : (test : List ℕ → Bool) (f : List (List ℕ) → List (List ℕ)) (es : List (List ℕ × IndexSet (List ℕ) S))
      → lookup test es ≡ None → lists_of es ≡ changed test f (lists_of es)
  unwritten test f [] l = refl
  unwritten test f (e ∷ es) l = same_at (test e.0) test f e es l (unwritten test f es)

  -- Writing a set with the same ids changes nothing.
  pub rewritten : (test : List ℕ → Bool) (es : List (List ℕ × IndexSet (List ℕ) S)) (s w : IndexSet (List ℕ) S)
      → lookup test es ≡ Some s → w.keys ≡ s.keys → lists_of (set_value test es w) ≡ lists_of es
  rewritten test es s w l k = written test (λ ks. ks) es s w l k ∙ changed-same test (lists_of es)

-- ---- Collected ids

pub key_known : {V : Type 0} (t : List ℕ → Bool) (es : List (List ℕ × V))
    → is_some (lookup t es) ≡ list_any t (keys_of es)
key_known t [] = refl
key_known t (e ∷ es) = known_at (t e.0) (key_known t es)
  where
    known_at : (v : Bool) → is_some (lookup t es) ≡ list_any t (keys_of es)
        → is_some (cond v (Some e.1) (lookup t es)) ≡ (v || list_any t (keys_of es))
    known_at true h = refl
    known_at false h = h

there_at : (v : Bool) (k i : List ℕ) (u : List ℕ × List (List ℕ)) (us : List (List ℕ × List (List ℕ)))
    → (v || list_any (same_text k) (keys_of us)) ≡ true
    → (list_any (same_text k) (keys_of us) ≡ true → with_listed k i us ≡ with_gathered k i us)
    → cond v ((u.0, insert_key same_text u.1 i) ∷ us) (u ∷ with_listed k i us)
    ≡ cond v ((u.0, insert_key same_text u.1 i) ∷ us) (u ∷ with_gathered k i us)
there_at true k i u us h ih = refl
there_at false k i u us h ih = ap (λ xs. u ∷ xs) (ih h)

gathered_there : (k i : List ℕ) (us : List (List ℕ × List (List ℕ))) → list_any (same_text k) (keys_of us) ≡ true
    → with_listed k i us ≡ with_gathered k i us
gathered_there k i [] h = absurd (false≢true h)
gathered_there k i (u ∷ us) h = there_at (same_text k u.0) k i u us h (gathered_there k i us)

gathered_last : (k i : List ℕ) (us : List (List ℕ × List (List ℕ))) → list_any (same_text k) (keys_of us) ≡ false
    → us ++ (k, i ∷ []) ∷ [] ≡ with_gathered k i us
gathered_last k i [] n = refl
gathered_last k i (u ∷ us) n =
    ap (λ xs. u ∷ xs) (gathered_last k i us (or_parts _ _ n).1)
    ∙ sym (ap (λ v. cond v ((u.0, insert_key same_text u.1 i) ∷ us) (u ∷ with_gathered k i us)) (or_parts _ _ n).0)

module _ {S : Type 0} where
  -- Whether there is a list under a key.
  pub has_list : (t : List ℕ → Bool) (es : List (List ℕ × IndexSet (List ℕ) S)) (o : Option (IndexSet (List ℕ) S))
      → lookup t es ≡ o → list_any t (keys_of es) ≡ is_some o
  has_list t es o e = sym (key_known t es) ∙ ap is_some e

  -- Appending an id to an existing list is the same in both definitions.
  pub gathered_in : (k i : List ℕ) (es : List (List ℕ × IndexSet (List ℕ) S)) (s : IndexSet (List ℕ) S)
      → lookup (same_text k) es ≡ Some s → with_listed k i (lists_of es) ≡ with_gathered k i (lists_of es)
  gathered_in k i es s e =
      gathered_there k i (lists_of es) (ap (list_any (same_text k)) (listed_keys es)
      ∙ has_list (same_text k) es (Some s) e)

  pub gathered_new : (k i : List ℕ) (es : List (List ℕ × IndexSet (List ℕ) S)) → lookup (same_text k) es ≡ None
      → lists_of es ++ (k, i ∷ []) ∷ [] ≡ with_gathered k i (lists_of es)
  gathered_new k i es e =
      gathered_last k i (lists_of es) (ap (list_any (same_text k)) (listed_keys es)
      ∙ has_list (same_text k) es None e)

-- One policy is listed if it is a link.
pub link_listed : (v : Bool) (p : PolicyParts) (k i : List ℕ) (ls : List (List ℕ × List (List ℕ))) → is_some p.link ≡ v
    → k ≡ p.template.id → i ≡ policy_id p → cond v (with_listed k i ls) ls ≡ all_listed ls (links_in (p ∷ []))
link_listed true p k i ls e q r =
    (λ j. with_listed (q j) (r j) ls) ∙ sym (ap (λ v. all_listed ls (cond v (p ∷ []) [])) e)
link_listed false p k i ls e q r = sym (ap (λ v. all_listed ls (cond v (p ∷ []) [])) e)

elsewhere_one : (w : Bool) (p : PolicyParts) (us : List (List ℕ × List (List ℕ)))
    → gathered_unless w p.template.id (policy_id p) us ≡ gathered us (cond (not w) (p ∷ []) [])
elsewhere_one true p us = refl
elsewhere_one false p us = refl

pub link_gathered : (p : PolicyParts) (k i : List ℕ) (ks : List (List ℕ)) (us : List (List ℕ × List (List ℕ)))
    → is_some p.link ≡ true → k ≡ p.template.id → i ≡ policy_id p
    → gathered_unless (list_any (same_text k) ks) k i us ≡ gathered us (elsewhere_in ks (p ∷ []))
link_gathered p k i ks us e q r =
    (λ j. gathered_unless (list_any (same_text (q j)) ks) (q j) (r j) us)
    ∙ elsewhere_one (list_any (same_text p.template.id) ks) p us
    ∙ sym (ap (λ v. gathered us (cond (v && not (list_any (same_text p.template.id) ks)) (p ∷ []) [])) e)

pub static_gathered : (p : PolicyParts) (ks : List (List ℕ)) (us : List (List ℕ × List (List ℕ)))
    → is_some p.link ≡ false → us ≡ gathered us (elsewhere_in ks (p ∷ []))
static_gathered p ks us e =
    sym (ap (λ v. gathered us (cond (v && not (list_any (same_text p.template.id) ks)) (p ∷ []) [])) e)

-- The step for one more policy.
pub links_more : (ps : List PolicyParts) (k : ℕ) (p : PolicyParts) (ls ms ns : List (List ℕ × List (List ℕ)))
    → k < length ps → p ≡ get_or ps k p → ms ≡ all_listed ls (links_in (take k ps))
    → ns ≡ all_listed ms (links_in (p ∷ [])) → ns ≡ all_listed ls (links_in (take (k + 1) ps))
links_more ps k p ls ms ns n g h e =
    e ∙ ap (λ xs. all_listed xs (links_in (p ∷ []))) h
    ∙ sym (ap (λ qs. all_listed ls (links_in qs)) (policies_more ps k p n g)
    ∙ ap (all_listed ls) (filter-append (λ (p : PolicyParts). is_some p.link) (take k ps) (p ∷ []))
    ∙ fold-append (λ (done : List (List ℕ × List (List ℕ))) (p : PolicyParts). with_listed p.template.id
    (policy_id p) done) ls (links_in (take k ps)) (links_in (p ∷ [])))

pub gathered_more : (ps : List PolicyParts) (k : ℕ) (p : PolicyParts) (ks js : List (List ℕ))
    (us vs ws : List (List ℕ × List (List ℕ)))
    → k < length ps → p ≡ get_or ps k p → js ≡ ks → vs ≡ gathered us (elsewhere_in ks (take k ps))
    → ws ≡ gathered vs (elsewhere_in js (p ∷ [])) → ws ≡ gathered us (elsewhere_in ks (take (k + 1) ps))
gathered_more ps k p ks js us vs ws n g q h e =
    e ∙ (λ j. gathered (h j) (elsewhere_in (q j) (p ∷ [])))
    ∙ sym (ap (λ qs. gathered us (elsewhere_in ks qs)) (policies_more ps k p n g)
    ∙ ap (gathered us) (filter-append (is_elsewhere ks) (take k ps) (p ∷ []))
    ∙ fold-append (λ (done : List (List ℕ × List (List ℕ))) (p : PolicyParts). with_gathered p.template.id
    (policy_id p) done) us (elsewhere_in ks (take k ps)) (elsewhere_in ks (p ∷ [])))

-- ---- Entries with their values read

module _ {V W : Type 0} (f : V → W) where
  -- The entries with their values mapped by `f`.
  abbrev pub read_by : List (List ℕ × V) → List (List ℕ × W)
  read_by es = map (λ e. (e.0, f e.1)) es

  read_removed_at : (v : Bool) (e : List ℕ × V) (es gs : List (List ℕ × V)) (hs : List (List ℕ × W)) → read_by gs ≡ hs
      → read_by (cond v es (e ∷ gs)) ≡ cond v (read_by es) ((e.0, f e.1) ∷ hs)
  read_removed_at true e es gs hs h = refl
  read_removed_at false e es gs hs h = ap (λ xs. (e.0, f e.1) ∷ xs) h

  pub read_removed : (t : List ℕ → Bool) (es : List (List ℕ × V))
      → read_by (remove_entry t es) ≡ remove_entry t (read_by es)
  read_removed t [] = refl
  read_removed t (e ∷ es) =
      read_removed_at (t e.0) e es (remove_entry t es) (remove_entry t (read_by es)) (read_removed t es)

  -- One more entry, in the form of the contracts of two steps.
  pub read_last : (old mid new : List (List ℕ × V)) (k i : List ℕ) (v : V) (w : W) → mid ≡ old
      → new ≡ mid ++ (k, v) ∷ [] → k ≡ i → f v ≡ w → read_by new ≡ read_by old ++ (i, w) ∷ []
  read_last old mid new k i v w a b c d =
      ap read_by (b ∙ ap (λ es. es ++ (k, v) ∷ []) a) ∙ map-append (λ (e : List ℕ × V). (e.0, f e.1)) old ((k, v) ∷ [])
      ∙ (λ j. read_by old ++ (c j, d j) ∷ [])

  alike_at : (v : Bool) (e : List ℕ × V) (o : Option V) (es gs : List (List ℕ × V)) (s w : V)
      → cond v (Some e.1) o ≡ Some s → f w ≡ f s → (o ≡ Some s → read_by gs ≡ read_by es) →
      read_by (cond v ((e.0, w) ∷ es) (e ∷ gs)) ≡ (e.0, f e.1) ∷ read_by es
  alike_at true e o es gs s w l q ih =
      let same : e.1 ≡ s = cc in
      ap (λ x. (e.0, x) ∷ read_by es) (q ∙ ap f (sym same))
  alike_at false e o es gs s w l q ih = ap (λ xs. (e.0, f e.1) ∷ xs) (ih l)

  -- Replacing a value by one with the same image changes no image.
  pub alike_written : (t : List ℕ → Bool) (es : List (List ℕ × V)) (s w : V) → lookup t es ≡ Some s → f w ≡ f s
      → read_by (set_value t es w) ≡ read_by es
  alike_written t [] s w l q = absurd (cc)
  alike_written t (e ∷ es) s w l q =
      alike_at (t e.0) e (lookup t es) es (set_value t es w) s w l q (λ m. alike_written t es s w m q)

  none_read : (o : Option V) → option_map f o ≡ None → o ≡ None
  none_read None h = refl
  none_read (Some v) h = absurd (cc)

  pub none_unread : (t : List ℕ → Bool) (es : List (List ℕ × V)) → lookup t (read_by es) ≡ None → lookup t es ≡ None
  none_unread t es h = none_read (lookup t es) (sym (lookup-map_values f t es) ∙ h)

same_at_key : {V : Type 0} (v : Bool) (e : List ℕ × V) (o : Option V) (es gs : List (List ℕ × V)) (s w : V)
    → cond v (Some e.1) o ≡ Some s → w ≡ s → (o ≡ Some s → gs ≡ es) → cond v ((e.0, w) ∷ es) (e ∷ gs) ≡ e ∷ es
same_at_key true e o es gs s w l q ih =
    let same : e.1 ≡ s = cc in
    ap (λ x. (e.0, x) ∷ es) (q ∙ sym same)
same_at_key false e o es gs s w l q ih = ap (λ xs. e ∷ xs) (ih l)

-- Replacing a value by the same value changes nothing.
pub same_written : {V : Type 0} (t : List ℕ → Bool) (es : List (List ℕ × V)) (s w : V) → lookup t es ≡ Some s → w ≡ s
    → set_value t es w ≡ es
same_written t [] s w l q = absurd (cc)
same_written t (e ∷ es) s w l q =
    same_at_key (t e.0) e (lookup t es) es (set_value t es w) s w l q (λ m. same_written t es s w m q)

abbrev body : Rc BodyParts Global → BodyParts
body t = t.value

abbrev body_id : BodyParts → List ℕ
body_id t = t.id

pub shared_values : (es : List (List ℕ × Rc BodyParts Global)) → bodies_of (values_of es) ≡ values_of (shared_of es)
shared_values [] = refl
shared_values (e ∷ es) = ap (λ ts. e.1.value ∷ ts) (shared_values es)

borrowed : (o : Option (Bor (Rc BodyParts Global)))
    → option_map (λ t. t.now.value) o ≡ option_map body (option_copied o)
borrowed None = refl
borrowed (Some t) = refl

-- A lookup of a body.
pub body_read : (m : Maps) (es : List (List ℕ × Rc BodyParts Global)) (i : List ℕ) → DoAgree m → m.bodies ≡ shared_of es
    → option_map body (lookup (same_text i) es) ≡ find (is_body_at i) (set_in m).bodies
body_read m es i h q = sym (lookup-map_values body (same_text i) es) ∙ ap (lookup (same_text i)) (sym q)
    ∙ lookup_is body_id (same_text i) m.bodies h.bodies_by_id

pub body_lent : (m : Maps) (es : List (List ℕ × Rc BodyParts Global)) (i : List ℕ)
    (o : Option (Bor (Rc BodyParts Global))) → DoAgree m → m.bodies ≡ shared_of es
    → option_copied o ≡ lookup (same_text i) es →
    option_map (λ t. t.now.value) o ≡ find (is_body_at i) (set_in m).bodies
body_lent m es i o h q e = borrowed o ∙ ap (option_map body) e ∙ body_read m es i h q

pub policy_read : (m : Maps) (i : List ℕ) → DoAgree m
    → lookup (same_text i) m.policies ≡ find (is_policy_at i) (set_in m).policies
policy_read m i h = lookup_is policy_id (same_text i) m.policies h.policies_by_id

some_find : {X : Type 0} (t : X → Bool) (xs : List X) → is_some (find t xs) ≡ list_any t xs
some_find t [] = refl
some_find t (x ∷ xs) = some_at (t x) (some_find t xs)
  where
    some_at : (v : Bool) → is_some (find t xs) ≡ list_any t xs
        → is_some (cond v (Some x) (find t xs)) ≡ (v || list_any t xs)
    some_at true h = refl
    some_at false h = h

some_mapped : {V W : Type 0} (f : V → W) (o : Option V) → is_some o ≡ is_some (option_map f o)
some_mapped f None = refl
some_mapped f (Some v) = refl

pub body_known : (m : Maps) (es : List (List ℕ × Rc BodyParts Global)) (i : List ℕ) → DoAgree m
    → m.bodies ≡ shared_of es → is_some (lookup (same_text i) es) ≡ list_any (is_body_at i) (set_in m).bodies
body_known m es i h q = some_mapped body (lookup (same_text i) es) ∙ ap is_some (body_read m es i h q)
    ∙ some_find (is_body_at i) (set_in m).bodies

pub policy_known : (m : Maps) (i : List ℕ) → DoAgree m
    → is_some (lookup (same_text i) m.policies) ≡ list_any (is_policy_at i) (set_in m).policies
policy_known m i h = ap is_some (policy_read m i h) ∙ some_find (is_policy_at i) (set_in m).policies

-- The template with an id is the body with the id, if that is a template.
pub template_is : (b : SetParts) (i : List ℕ) (t : BodyParts) (v : Bool) → v ≡ not (list_any (is_policy_at i) b.policies)
    → Some t ≡ find (is_body_at i) b.bodies → cond v (Some t) None ≡ template_bound (bound_at b i)
template_is b i t v e f =
    ap (λ v. cond v (Some t) None) e ∙ turned (list_any (is_policy_at i) b.policies) t
    ∙ (λ j. cond (sym (some_find (is_policy_at i) b.policies) j) None (f j))
    ∙ sym (template_among (find (is_policy_at i) b.policies) (find (is_body_at i) b.bodies))
  where
    turned : (w : Bool) (t : BodyParts) → cond (not w) (Some t) None ≡ cond w None (Some t)
    turned true t = refl
    turned false t = refl

no_template_at : (i : List ℕ) (ts : List BodyParts) (ps : List PolicyParts) → list_any (is_body_at i) ts ≡ false
    → find (is_body_at i) (templates_in ps ts) ≡ None
no_template_at i ts ps n =
    find-unless (is_body_at i) (templates_in ps ts)
    (any-filter_none (λ (t : BodyParts). not (list_any (is_policy_at t.id) ps)) (is_body_at i) ts n)

module _ {S : Type 0} where
  abbrev ids : IndexSet (List ℕ) S → List (List ℕ)
  ids s = s.keys

  lent : (o : Option (Bor (IndexSet (List ℕ) S))) → option_map (λ s. s.now.keys) o ≡ option_map ids (option_copied o)
  lent None = refl
  lent (Some s) = refl

  -- A lookup of a list of ids.
  pub ids_lent : (m : Maps) (es : List (List ℕ × IndexSet (List ℕ) S)) (i : List ℕ)
      (o : Option (Bor (IndexSet (List ℕ) S))) → DoAgree m → m.listed ≡ lists_of es
      → option_copied o ≡ lookup (same_text i) es →
      option_map (λ s. s.now.keys) o ≡ option_map (λ t. ids_in t.id (set_in m).policies)
      (find (is_body_at i) (templates_in (set_in m).policies (set_in m).bodies))
  ids_lent m es i o h q e =
      lent o ∙ ap (option_map ids) e ∙ sym (lookup-map_values ids (same_text i) es)
      ∙ ap (lookup (same_text i)) (sym q ∙ h.all_listed)
      ∙ listed_at i (templates_in (set_in m).policies (set_in m).bodies) (set_in m).policies

  -- An unused id is not a key of the lists.
  pub absent_list : (m : Maps) (es : List (List ℕ × IndexSet (List ℕ) S)) (i : List ℕ) → DoAgree m
      → m.listed ≡ lists_of es → is_bound (set_in m) i ≡ false → lookup (same_text i) es ≡ None
  absent_list m es i h q n =
      none_unread ids (same_text i) es
      (ap (lookup (same_text i)) (sym q ∙ h.all_listed)
      ∙ listed_at i (templates_in (set_in m).policies (set_in m).bodies) (set_in m).policies
      ∙ ap (option_map (λ t. ids_in t.id (set_in m).policies))
      (no_template_at i (set_in m).bodies (set_in m).policies (no_body_at (set_in m) i n)))

  list_free : (o : Option (IndexSet (List ℕ) S)) (u : Option BodyParts) (i : List ℕ) (ps : List PolicyParts)
      → option_map ids o ≡ option_map (λ t. ids_in t.id ps) u → list_any (is_policy_at i) ps ≡ false
      → IfSome o (λ s. list_any (same_text i) s.keys ≡ false)
  list_free None u i ps h n = tt
  list_free (Some s) None i ps h n = absurd (cc)
  list_free (Some s) (Some t) i ps h n =
      let same : s.keys ≡ ids_in t.id ps = cc in
      ap (list_any (same_text i)) same
      ∙ any-map policy_id (same_text i) (filter (is_on t.id) ps)
      ∙ any-filter_none (is_on t.id) (is_policy_at i) ps n

  pub not_in : (o : Option (IndexSet (List ℕ) S)) (s : IndexSet (List ℕ) S) (i : List ℕ) → Some s ≡ o
      → IfSome o (λ t. list_any (same_text i) t.keys ≡ false) → list_any (same_text i) s.keys ≡ false
  not_in None s i e h = absurd (cc)
  not_in (Some t) s i e h =
      let same : t ≡ s = cc in
      subst (λ (t : IndexSet (List ℕ) S). list_any (same_text i) t.keys ≡ false) same h

  -- An unused id is in no list.
  pub id_unlisted : (m : Maps) (es : List (List ℕ × IndexSet (List ℕ) S)) (k i : List ℕ) → DoAgree m
      → m.listed ≡ lists_of es → is_bound (set_in m) i ≡ false
      → IfSome (lookup (same_text k) es) (λ s. list_any (same_text i) s.keys ≡ false)
  id_unlisted m es k i h q n =
      let templates = templates_in (set_in m).policies (set_in m).bodies in
      list_free (lookup (same_text k) es) (find (is_body_at k) templates) i (set_in m).policies
      (sym (lookup-map_values ids (same_text k) es) ∙ ap (lookup (same_text k)) (sym q ∙ h.all_listed)
      ∙ listed_at k templates (set_in m).policies)
      (no_policy_at (set_in m) i n)

  -- The id of a policy is not a key of the lists.
  pub policy_unkeyed : (m : Maps) (es : List (List ℕ × IndexSet (List ℕ) S)) (i : List ℕ) → DoAgree m
      → m.listed ≡ lists_of es → list_any (is_policy_at i) (set_in m).policies ≡ true → lookup (same_text i) es ≡ None
  policy_unkeyed m es i h q n =
      none_unread ids (same_text i) es
      (ap (lookup (same_text i)) (sym q ∙ h.all_listed)
      ∙ listed_at i (templates_in (set_in m).policies (set_in m).bodies) (set_in m).policies
      ∙ ap (option_map (λ t. ids_in t.id (set_in m).policies))
      (template_found i (set_in m).bodies (set_in m).policies
      ∙ ap (λ v. cond v None (find (is_body_at i) (set_in m).bodies)) n))

pub absent_body : (m : Maps) (es : List (List ℕ × Rc BodyParts Global)) (i : List ℕ) → DoAgree m
    → m.bodies ≡ shared_of es → is_bound (set_in m) i ≡ false → lookup (same_text i) es ≡ None
absent_body m es i h q n =
    none_unread body (same_text i) es
    (ap (lookup (same_text i)) (sym q) ∙ lookup_is body_id (same_text i) m.bodies h.bodies_by_id
    ∙ find-unless (is_body_at i) (set_in m).bodies (no_body_at (set_in m) i n))

absent_at : {V : Type 0} (v : Bool) (e : List ℕ × V) (o : Option V) (es gs : List (List ℕ × V))
    → cond v (Some e.1) o ≡ None → (o ≡ None → gs ≡ es) → cond v es (e ∷ gs) ≡ e ∷ es
absent_at true e o es gs h ih = absurd (cc)
absent_at false e o es gs h ih = ap (λ xs. e ∷ xs) (ih h)

-- Removing an absent key changes nothing.
pub removed_absent : {V : Type 0} (t : List ℕ → Bool) (es : List (List ℕ × V)) → lookup t es ≡ None
    → remove_entry t es ≡ es
removed_absent t [] h = refl
removed_absent t (e ∷ es) h =
    absent_at (t e.0) e (lookup t es) es (remove_entry t es) h (removed_absent t es)

option_none : {V W : Type 0} (f : V → W) (o : Option V) → None ≡ option_map f o → o ≡ None
option_none f None h = refl
option_none f (Some v) h = absurd (cc)

-- The id of a link is not a key of the bodies.
pub link_unkeyed : (m : Maps) (es : List (List ℕ × Rc BodyParts Global)) (i : List ℕ) (p : PolicyParts) → DoAgree m
    → m.bodies ≡ shared_of es → find (is_policy_at i) (set_in m).policies ≡ Some p → is_some p.link ≡ true
    → lookup (same_text i) es ≡ None
link_unkeyed m es i p h q f s =
    none_read body (lookup (same_text i) es)
    (body_read m es i h q
    ∙ option_none (λ (t : BodyParts). ids_in t.id (set_in m).policies) (find (is_body_at i) (set_in m).bodies)
    (link_ids (set_in m) i p h.policy_set f s))

pub absent_policy : (m : Maps) (i : List ℕ) → DoAgree m → is_bound (set_in m) i ≡ false
    → lookup (same_text i) m.policies ≡ None
absent_policy m i h n = policy_read m i h
    ∙ find-unless (is_policy_at i) (set_in m).policies (no_policy_at (set_in m) i n)

-- ---- Maps created from lists, and copies

module _ {V : Type 0} (f : V → List ℕ) where
  -- The id of the next value is not a key.
  pub next_absent : (es : List (List ℕ × V)) (k : List ℕ) (v : V) (rest all : List V) → AreOnce f all → IsKeyed f es
      → values_of es ++ v ∷ rest ≡ all → k ≡ f v → lookup (same_text k) es ≡ None
  next_absent es k v rest all h g e q =
      lookup_is f (same_text k) es g
      ∙ find-unless (is_at f k) (values_of es) (ap (λ i. list_any (is_at f i) (values_of es)) q
      ∙ before_at f (values_of es) v rest (subst (AreOnce f) (sym e) h))

  -- The next value is appended.
  pub next_put : (es fs : List (List ℕ × V)) (k : List ℕ) (v : V) (rest all : List V) → IsKeyed f es
      → values_of es ++ v ∷ rest ≡ all → k ≡ f v → fs ≡ es ++ (k, v) ∷ [] → IsKeyed f fs × (values_of fs ++ rest ≡ all)
  next_put es fs k v rest all g e q p = (
    subst (IsKeyed f) (sym p) (keyed_last f es k v g q),
    ap (λ x. x ++ rest) (ap values_of p ∙ map-append (λ (e : List ℕ × V). e.1) es ((k, v) ∷ []))
        ∙ append_assoc (values_of es) (v ∷ []) rest ∙ e,
  )

abbrev pub shared_id : Rc BodyParts Global → List ℕ
shared_id t = t.value.id

pub shared_once : (ts : List (Rc BodyParts Global)) → AreOnce body_id (bodies_of ts) → AreOnce shared_id ts
shared_once [] h = tt
shared_once (t ∷ ts) h = (sym (any-map body (is_at body_id t.value.id) ts) ∙ h.0, shared_once ts h.1)

pub shared_keyed : (es : List (List ℕ × Rc BodyParts Global)) → IsKeyed shared_id es → IsKeyed body_id (shared_of es)
shared_keyed [] h = refl
shared_keyed (e ∷ es) h =
    let k : e.0 ≡ e.1.value.id = cc in
    let r : IsKeyed shared_id es = cc in
    λ j. k j ∷ shared_keyed es r j

-- Whether a policy has an id.
pub known_by : (es : List (List ℕ × PolicyParts)) (i : List ℕ) → IsKeyed policy_id es
    → is_some (lookup (same_text i) es) ≡ list_any (is_policy_at i) (values_of es)
known_by es i h = ap is_some (lookup_is policy_id (same_text i) es h) ∙ some_find (is_policy_at i) (values_of es)

-- The list for one body whose id a policy has is empty.
pub no_list : (ps : List PolicyParts) (t : BodyParts) (v : Bool) → v ≡ true → v ≡ list_any (is_policy_at t.id) ps
    → [] ≡ ids_by_body (templates_in ps (t ∷ [])) []
no_list ps t v e h = ap (λ v. ids_by_body (cond (not v) (t ∷ []) []) []) (sym e ∙ h)

pub one_list : (ps : List PolicyParts) (t : BodyParts) (v : Bool) → v ≡ false → v ≡ list_any (is_policy_at t.id) ps
    → (t.id, []) ∷ [] ≡ ids_by_body (templates_in ps (t ∷ [])) []
one_list ps t v e h = ap (λ v. ids_by_body (cond (not v) (t ∷ []) []) []) (sym e ∙ h)

module _ {S : Type 0} where
  -- Appending an empty list of entries changes nothing.
  pub none_listed : (es : List (List ℕ × IndexSet (List ℕ) S)) (ls : List (List ℕ × List (List ℕ))) → [] ≡ ls
      → lists_of es ≡ lists_of es ++ ls
  none_listed es ls h = sym (append-nil (lists_of es)) ∙ ap (λ ls. lists_of es ++ ls) h

  -- An empty list of ids is appended.
  pub one_listed : (es fs : List (List ℕ × IndexSet (List ℕ) S)) (k i : List ℕ) (s : IndexSet (List ℕ) S)
      (ls : List (List ℕ × List (List ℕ))) → fs ≡ es ++ (k, s) ∷ [] → k ≡ i → s.keys ≡ [] → (i, []) ∷ [] ≡ ls →
      lists_of fs ≡ lists_of es ++ ls
  one_listed es fs k i s ls p q e h =
      ap lists_of p ∙ map-append (λ (e : List ℕ × IndexSet (List ℕ) S). (e.0, e.1.keys)) es ((k, s) ∷ [])
      ∙ (λ j. lists_of es ++ (q j, e j) ∷ []) ∙ ap (λ ls. lists_of es ++ ls) h

  -- A list of ids is appended, in front of the remaining lists.
  pub listed_last : (es : List (List ℕ × IndexSet (List ℕ) S)) (i : List ℕ) (s : IndexSet (List ℕ) S) (ks : List (List ℕ))
      (ls : List (List ℕ × List (List ℕ))) → s.keys ≡ ks
      → lists_of (es ++ (i, s) ∷ []) ++ ls ≡ lists_of es ++ (i, ks) ∷ ls
  listed_last [] i s ks ls e = ap (λ ks. (i, ks) ∷ ls) e
  listed_last (e ∷ es) i s ks ls k = ap (λ ls. (e.0, e.1.keys) ∷ ls) (listed_last es i s ks ls k)

  -- The lists that remain are those under ids that no policy has.
  pub lists_kept : (es fs : List (List ℕ × IndexSet (List ℕ) S)) (qs : List (List ℕ × PolicyParts))
      → IsKeyed policy_id qs → fs ≡ filter (λ e. not (is_some (lookup (same_text e.0) qs))) es →
      lists_of fs ≡ filter (λ e. not (list_any (is_policy_at e.0) (values_of qs))) (lists_of es)
  lists_kept es fs qs h p = ap lists_of p ∙ kept es
    where
      kept_at : (v w : Bool) (e : List ℕ × IndexSet (List ℕ) S) (gs : List (List ℕ × IndexSet (List ℕ) S))
          (ls : List (List ℕ × List (List ℕ))) → v ≡ w → lists_of gs ≡ ls →
          lists_of (cond (not v) (e ∷ gs) gs) ≡ cond (not w) ((e.0, e.1.keys) ∷ ls) ls
      kept_at v true e gs ls p h = ap (λ v. lists_of (cond (not v) (e ∷ gs) gs)) p ∙ h
      kept_at v false e gs ls p h = ap (λ v. lists_of (cond (not v) (e ∷ gs) gs)) p ∙ ap (λ ls. (e.0, e.1.keys) ∷ ls) h

      kept : (es : List (List ℕ × IndexSet (List ℕ) S))
          → lists_of (filter (λ e. not (is_some (lookup (same_text e.0) qs))) es)
          ≡ filter (λ e. not (list_any (is_policy_at e.0) (values_of qs))) (lists_of es)
      kept [] = refl
      kept (e ∷ es) =
          kept_at (is_some (lookup (same_text e.0) qs)) (list_any (is_policy_at e.0) (values_of qs)) e
          (filter (λ e. not (is_some (lookup (same_text e.0) qs))) es)
          (filter (λ e. not (list_any (is_policy_at e.0) (values_of qs))) (lists_of es)) (known_by qs e.0 h) (kept es)

  -- The step for the empty list of one more template.
  pub no_ids_more : (ts : List (Rc BodyParts Global)) (k : ℕ) (t : Rc BodyParts Global) (ps : List PolicyParts)
      (es fs : List (List ℕ × IndexSet (List ℕ) S)) →
      k < length ts → t ≡ get_or ts k t → lists_of es ≡ ids_by_body (templates_in ps (bodies_of (take k ts))) []
      → lists_of fs ≡ lists_of es ++ ids_by_body (templates_in ps (t.value ∷ [])) [] →
      lists_of fs ≡ ids_by_body (templates_in ps (bodies_of (take (k + 1) ts))) []
  no_ids_more ts k t ps es fs n g h p =
      p ∙ ap (λ ls. ls ++ ids_by_body (templates_in ps (t.value ∷ [])) []) h
      ∙ sym
      (ap (λ bs. ids_by_body (templates_in ps bs) []) (bodies_more ts k t n g)
      ∙ ap (λ us. ids_by_body us []) (filter-append
      (λ (t : BodyParts). not (list_any (is_policy_at t.id) ps)) (bodies_of (take k ts)) (t.value ∷ []))
      ∙ map-append (λ (b : BodyParts). (b.id, ids_in b.id [])) (templates_in ps (bodies_of (take k ts)))
      (templates_in ps (t.value ∷ [])))

  pub no_ids_absent : (ts : List (Rc BodyParts Global)) (k : ℕ) (t : Rc BodyParts Global) (ps : List PolicyParts)
      (es : List (List ℕ × IndexSet (List ℕ) S)) (i : List ℕ) → AreOnce body_id (bodies_of ts) →
      k < length ts → t ≡ get_or ts k t → lists_of es ≡ ids_by_body (templates_in ps (bodies_of (take k ts))) []
      → i ≡ t.value.id → lookup (same_text i) es ≡ None
  no_ids_absent ts k t ps es i o n g h q =
      none_unread (λ (s : IndexSet (List ℕ) S). s.keys) (same_text i) es
      (ap (lookup (same_text i)) h ∙ listed_at i (templates_in ps (bodies_of (take k ts))) []
      ∙ ap (option_map (λ b. ids_in b.id []))
      (no_template_at i (bodies_of (take k ts)) ps
      (ap (λ j. list_any (is_body_at j) (bodies_of (take k ts))) q
      ∙ before_at body_id (bodies_of (take k ts)) t.value (bodies_of (drop (suc k) ts))
      (subst (AreOnce body_id) (parted ts k t n g) o))))

pub shared_copied : (es fs : List (List ℕ × Rc BodyParts Global))
    → AllZip (λ (p q : List ℕ × Rc BodyParts Global). (q.0 ≡ p.0) × (q.1.value ≡ p.1.value)) es fs
    → shared_of fs ≡ shared_of es
shared_copied [] [] h = refl
shared_copied [] (f ∷ fs) h = absurd h
shared_copied (e ∷ es) [] h = absurd h
shared_copied (e ∷ es) (f ∷ fs) h = λ i. (h.0.0 i, h.0.1 i) ∷ shared_copied es fs h.1 i

ids_copied : (xs ys : List (List ℕ)) → AllZip (λ (x y : List ℕ). y ≡ x) xs ys → ys ≡ xs
ids_copied [] [] h = refl
ids_copied [] (y ∷ ys) h = absurd h
ids_copied (x ∷ xs) [] h = absurd h
ids_copied (x ∷ xs) (y ∷ ys) h = λ i. h.0 i ∷ ids_copied xs ys h.1 i

pub lists_copied : {S : Type 0} (es fs : List (List ℕ × IndexSet (List ℕ) S))
    → AllZip (λ (p q : List ℕ × IndexSet (List ℕ) S). (q.0 ≡ p.0)
    × AllZip (λ (x y : List ℕ). y ≡ x) p.1.keys q.1.keys) es fs → lists_of fs ≡ lists_of es
lists_copied [] [] h = refl
lists_copied [] (f ∷ fs) h = absurd h
lists_copied (e ∷ es) [] h = absurd h
lists_copied (e ∷ es) (f ∷ fs) h = λ i. (h.0.0 i, ids_copied e.1.keys f.1.keys h.0.1 i) ∷ lists_copied es fs h.1 i

-- Keys that differ are distinct.
apart_from : (i : List ℕ) (ks : List (List ℕ)) → list_any (same_text i) ks ≡ false
    → AllByRecursion (λ k. same_text i k ≡ false) ks
apart_from i [] h = tt
apart_from i (k ∷ ks) h =
    let parts = or_parts (same_text i k) (list_any (same_text i) ks) h in
    (parts.0, apart_from i ks parts.1)

pub once_distinct : (ks : List (List ℕ)) → AreOnce (λ (k : List ℕ). k) ks → IsDistinct same_text ks
unfolding IsDistinct
once_distinct [] h = tt
once_distinct (k ∷ ks) h = (apart_from k ks h.0, once_distinct ks h.1)
