-- The effect of the nodes of a tree on a stack of abstract values.
use Rattle.std.proofs.Common.{◌≡◌, ◌∙◌, ap, sym, refl, subst, ℕ, List, [], ◌∷◌, ◌++◌, append_assoc}
use mathlib.Core.List.{append-nil}
use Rattle.std.specs.List.{AllZip}
use Rattle.cedar_c_trees.specs.Items.{Item, Tree, node, Trees, no_trees, tree_then, flat, flats}
use Rattle.cedar_c_trees.specs.Shapes.{Fits, AllFit}
use Rattle.cedar_c_trees.specs.declared.node.Node.{Node}

-- The abstract value of a tree, where m states the value of a node from the values of its operands.
abbrev mutual
  pub shape : {X : Type 0} → (Item → List X → X) → Tree → X
  shape m (node i ts) = m i (shapes m ts)

  pub shapes : {X : Type 0} → (Item → List X → X) → Trees → List X
  shapes m no_trees = []
  shapes m (tree_then t ts) = shape m t ∷ shapes m ts

-- Holds if S allows the operands of each node of a tree.
abbrev mutual
  pub IsShaped : {X : Type 0} → (Item → List X → Type 0) → (Item → List X → X) → Tree → Type 0
  IsShaped S m (node i ts) = S i (shapes m ts) × AreShaped S m ts

  pub AreShaped : {X : Type 0} → (Item → List X → Type 0) → (Item → List X → X) → Trees → Type 0
  AreShaped S m no_trees = Unit {0}
  AreShaped S m (tree_then t ts) = IsShaped S m t × AreShaped S m ts

-- Holds if the nodes reduce the stack to x only.
abbrev pub Leads : {X : Type 0} → (Item → List X → Type 0) → (Item → List X → X) → List ℕ → X → List Node → List X
    → Type 0
Leads S m text x [] ss = ss ≡ x ∷ []
Leads {X = X} S m text x (n ∷ ns) ss =
    (i : Item) × (front : List X) × (under : List X) × Fits text n i × S i under × (ss ≡ front ++ under)
    × Leads S m text x ns (front ++ m i under ∷ [])

-- Nodes, split as the items are.
pub record SharedAndNew (R : Node → Item → Type 0) (ns : List Node) (is js : List Item) : Type 0 where
  pub before : List Node
  pub after : List Node
  pub whole : ns ≡ before ++ after
  pub before_fit : AllZip R before is
  pub after_fit : AllZip R after js

pub parted : (R : Node → Item → Type 0) (ns : List Node) (is js : List Item) → AllZip R ns (is ++ js) → SharedAndNew R ns is js
parted R ns [] js h = record { before = []; after = ns; whole = refl; before_fit = tt; after_fit = h }
parted R [] (i ∷ is) js h = absurd h
parted R (n ∷ ns) (i ∷ is) js h =
    let r : SharedAndNew R ns is js = parted R ns is js h.1 in
    record {
      before = n ∷ r.before;
      after = r.after;
      whole = ap (λ l. n ∷ l) r.whole;
      before_fit = (h.0, r.before_fit);
      after_fit = r.after_fit;
    }

-- The node of a single item.
pub record Alone (R : Node → Item → Type 0) (ns : List Node) (i : Item) : Type 0 where
  pub one : Node
  pub is : ns ≡ one ∷ []
  pub fits : R one i

pub lone : (R : Node → Item → Type 0) (ns : List Node) (i : Item) → AllZip R ns (i ∷ []) → Alone R ns i
lone R [] i h = absurd h
lone R (n ∷ []) i h = record { one = n; is = refl; fits = h.0 }
lone R (n ∷ m ∷ ns) i h = absurd h.1

none : (text : List ℕ) (ns : List Node) → AllFit text ns [] → ns ≡ []
none text [] h = refl
none text (n ∷ ns) h = absurd h

mutual
  -- The nodes of a tree push its abstract value onto the stack.
  pub tree_leads : {X : Type 0} (S : Item → List X → Type 0) (m : Item → List X → X) (text : List ℕ) (x : X) (t : Tree)
      (ns rest : List Node) (ss : List X) → IsShaped S m t → AllFit text ns (flat t)
      → Leads S m text x rest (ss ++ shape m t ∷ []) → Leads S m text x (ns ++ rest) ss
  tree_leads S m text x (node i ts) ns rest ss h f g =
      let p : SharedAndNew (Fits text) ns (flats ts) (i ∷ []) = parted (Fits text) ns (flats ts) (i ∷ []) f in
      let a : Alone (Fits text) p.after i = lone (Fits text) p.after i p.after_fit in
      let whole : ns ++ rest ≡ p.before ++ (a.one ∷ rest) =
      ap (λ l. l ++ rest) (p.whole ∙ ap (λ l. p.before ++ l) a.is) ∙ append_assoc p.before (a.one ∷ []) rest in
      subst (λ (ms : List Node). Leads S m text x ms ss) (sym whole)
      (trees_lead S m text x ts p.before (a.one ∷ rest) ss h.1 p.before_fit
      (i, ss, shapes m ts, a.fits, h.0, refl, g))

  pub trees_lead : {X : Type 0} (S : Item → List X → Type 0) (m : Item → List X → X) (text : List ℕ) (x : X) (ts : Trees)
      (ns rest : List Node) (ss : List X) → AreShaped S m ts → AllFit text ns (flats ts)
      → Leads S m text x rest (ss ++ shapes m ts) → Leads S m text x (ns ++ rest) ss
  trees_lead S m text x no_trees ns rest ss h f g =
      subst (λ (ms : List Node). Leads S m text x (ms ++ rest) ss) (sym (none text ns f))
      (subst (Leads S m text x rest) (append-nil ss) g)
  trees_lead S m text x (tree_then t ts) ns rest ss h f g =
      let p : SharedAndNew (Fits text) ns (flat t) (flats ts) = parted (Fits text) ns (flat t) (flats ts) f in
      subst (λ (ms : List Node). Leads S m text x ms ss)
      (sym (ap (λ l. l ++ rest) p.whole ∙ append_assoc p.before p.after rest))
      (tree_leads S m text x t p.before (p.after ++ rest) ss h.0 p.before_fit
      (trees_lead S m text x ts p.after rest (ss ++ shape m t ∷ []) h.1 p.after_fit
      (subst (Leads S m text x rest) (sym (append_assoc ss (shape m t ∷ []) (shapes m ts))) g)))

-- The nodes of a whole tree reduce the empty stack to its abstract value.
pub leads_from_nothing : {X : Type 0} (S : Item → List X → Type 0) (m : Item → List X → X) (text : List ℕ) (t : Tree)
    (ns : List Node) → IsShaped S m t → AllFit text ns (flat t) → Leads S m text (shape m t) ns []
leads_from_nothing S m text t ns h f =
    subst (λ (ms : List Node). Leads S m text (shape m t) ms []) (append-nil ns)
    (tree_leads S m text (shape m t) t ns [] [] h f refl)
