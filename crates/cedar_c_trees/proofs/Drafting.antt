-- Nodes are written before others, and the remaining values are on a stack.
use Rattle.std.proofs.Common.{◌≡◌, ◌∙◌, ap, sym, refl, subst, ℕ, ◌+◌, ◌-◌, ◌<◌, length, take, List, [], ◌∷◌, ◌++◌}
use Rattle.std.proofs.Common.{append_assoc, arith, length-append, String, string_bytes}
use Rattle.std.specs.Prelude.{pos}
use Rattle.std.proofs.Math.ListN.{get_or}
use Rattle.std.proofs.Math.Seq.{drop-append_seam}
use Rattle.std.proofs.lemmas.List.{reverse-append, take_all, take_more}
use Rattle.std.specs.Borrow.{Bor}
use Rattle.std.specs.declared.alloc.Global.{Global}
use Rattle.std.specs.Str.{IsUtf8}
use mathlib.Core.List.{append-nil, reverse}
use Rattle.cedar_ids.specs.Name.{NameParts}
use Rattle.cedar_ids.specs.Printed.{printed_name}
use Rattle.cedar_ids.specs.TextOf.{IsName, IsNameText}
use Rattle.cedar_ids.specs.UidOf.{uid_parts}
use Rattle.cedar_ids.specs.declared.entity.EntityUID.{EntityUID}
use Rattle.cedar_c_lists.specs.Answers.{part}
use Rattle.cedar_c_lists.specs.Texts.{IsInside, IsReadOf, IsTextOf}
use Rattle.cedar_terms.specs.ExprTree.{ExprTree, expr_trees}
use Rattle.cedar_terms.specs.ValueTree.{ValueTree, value_trees}
use Rattle.cedar_terms.specs.ValueViews.{field_trees}
use Rattle.cedar_c_trees.specs.Drafts.{Adds, AreNamed, HasNode, HasText, IsNamed, Pushes, Writes, pending_items}
use Rattle.cedar_c_trees.specs.Drafts.{pending_tree}
use Rattle.cedar_c_trees.specs.Items.{Item, text_item, uid_item, call_item, unknown_item, is_item}
use Rattle.cedar_c_trees.specs.Items.{Tree, node, Trees, no_trees, tree_then, flat, flats}
use Rattle.cedar_c_trees.specs.Plans.{expr_plan, exprs_count, exprs_plan, fields_count, fields_plan, value_plan}
use Rattle.cedar_c_trees.specs.Plans.{values_count, values_plan, text_leaf, HasNames, HaveNames}
use Rattle.cedar_c_trees.specs.Writes.{AllEncode, HasZeroUnused, IsNodeFor, IsWrittenAs, Encodes, WrittenParts}
use Rattle.cedar_c_trees.specs.declared.node.Node.{Node}
use Rattle.cedar_c_trees.specs.declared.pending.Pending.{Pending}
use Rattle.cedar_c_trees.specs.declared.pending.Pending.TheVariants as pendings
use Rattle.cedar_c_trees.proofs.Kept.{all_kept, printed_text, read_of_printed, zip_append}

-- The text after some bytes.
part_behind : (bytes text : List ℕ)
    → part (bytes ++ text) (record { start = length bytes; end = length (bytes ++ text) }) ≡ text
part_behind bytes text =
    ap (take (length (bytes ++ text) - length bytes)) (drop-append_seam bytes text)
    ∙ take_all (length (bytes ++ text) - length bytes) text (omega (arith, length-append bytes text))

-- A node is written with its text.
pub text_put : (text bytes bytes' : List ℕ) (nodes nodes' : List Node) (start end : ℕ) (n : Node) (old : WrittenParts)
    → record { bytes = bytes; nodes = reverse nodes } ≡ old → IsUtf8 text → start ≡ length bytes
    → bytes' ≡ bytes ++ text → end ≡ length bytes' → nodes' ≡ nodes ++ n ∷ []
    → n.at ≡ record { start = start; end = end } → n.number ≡ pos 0
    → HasText n.kind n.len text old (record { bytes = bytes'; nodes = reverse nodes' })
text_put text bytes bytes' nodes nodes' start end n old o u s b e f a z =
    let q : part bytes' n.at ≡ text =
    ap (part bytes') (a ∙ ap (λ k. record { start = k; end = end }) s
    ∙ ap (λ k. record { start = length bytes; end = k }) (e ∙ ap length b))
    ∙ ap (λ l. part l (record { start = length bytes; end = length (bytes ++ text) })) b ∙ part_behind bytes text in
    let l : length bytes' ≡ length bytes + length text = ap length b ∙ length-append bytes text in
    let i : IsInside bytes' (record { start = start; end = end }) = (omega arith, omega arith) in
    record {
      node = n;
      has = record {
        more = text;
        bytes = b ∙ ap (λ (w : WrittenParts). w.bytes ++ text) o;
        nodes =
            ap reverse f ∙ reverse-append nodes (n ∷ [])
            ∙ ap (λ (w : WrittenParts). n ∷ w.nodes) o;
      };
      kind_is = refl;
      len_is = refl;
      number_is = z;
      at = (subst (IsInside bytes') (sym a) i, subst IsUtf8 (sym q) u, sym q);
    }

-- A node that was written for an item.
pub adds_one : (n : Node) (i : Item) (old new : WrittenParts) → HasNode n old new → Encodes new.bytes n i
    → HasZeroUnused n i → Adds (i ∷ []) old new
adds_one n i old new h w z = record {
  more = h.more;
  added = n ∷ [];
  bytes = h.bytes;
  nodes = h.nodes;
  notes = (record { notes = w; blank = z }, tt);
}

-- More nodes before the existing ones.
pub adds_more : (is js : List Item) (a b c : WrittenParts) → Adds js a b → Adds is b c → Adds (is ++ js) a c
adds_more is js a b c h g = record {
  more = h.more ++ g.more;
  added = g.added ++ h.added;
  bytes = g.bytes ∙ ap (λ l. l ++ g.more) h.bytes ∙ append_assoc a.bytes h.more g.more;
  nodes = g.nodes ∙ ap (λ l. g.added ++ l) h.nodes ∙ sym (append_assoc g.added h.added a.nodes);
  notes =
      zip_append (IsNodeFor c.bytes) g.added is h.added js g.notes
      (subst (λ bs. AllEncode bs h.added js) (sym g.bytes) (all_kept b.bytes g.more h.added js h.notes));
}

pub text_added : (s : List ℕ) (old new : WrittenParts) → HasText 2 0 s old new → Adds (text_item s ∷ []) old new
text_added s old new h =
    adds_one h.node (text_item s) old new h.has (h.kind_is, h.at) (h.len_is, h.number_is)

pub unknown_added : (s : List ℕ) (k : ℕ) (old new : WrittenParts) → HasText 9 k s old new
    → Adds (unknown_item s k ∷ []) old new
unknown_added s k old new h =
    adds_one h.node (unknown_item s k) old new h.has (h.kind_is, h.len_is, h.at) h.number_is

-- An unknown after the name of its type.
pub typed_added : (name s : List ℕ) (t : NameParts) (old mid new : WrittenParts) → s ≡ printed_name t
    → HasText 9 1 name old mid → HasText 2 0 s mid new
    → Adds (text_item (printed_name t) ∷ unknown_item name 1 ∷ []) old new
typed_added name s t old mid new e h g =
    subst (λ x. Adds (text_item x ∷ unknown_item name 1 ∷ []) old new) e
    (adds_more (text_item s ∷ []) (unknown_item name 1 ∷ []) old mid new (unknown_added name 1 old mid h)
    (text_added s mid new g))

pub call_added : (f : NameParts) (k : ℕ) (s : List ℕ) (old new : WrittenParts) → IsNameText f s
    → HasText 6 k s old new → Adds (call_item f k ∷ []) old new
call_added f k s old new g h =
    adds_one h.node (call_item f k) old new h.has
    (h.kind_is, h.len_is, (h.at.0, subst (IsNameText f) h.at.2 g)) h.number_is

pub is_added : (f : NameParts) (s : List ℕ) (old new : WrittenParts) → IsNameText f s → HasText 14 0 s old new
    → Adds (is_item f ∷ []) old new
is_added f s old new g h =
    adds_one h.node (is_item f) old new h.has (h.kind_is, (h.at.0, subst (IsNameText f) h.at.2 g))
    (h.len_is, h.number_is)

pub uid_added : (u : EntityUID) (s : List ℕ) (old new : WrittenParts) → IsName (uid_parts u).name → IsTextOf u s
    → HasText 3 0 s old new → Adds (uid_item (uid_parts u) ∷ []) old new
uid_added u s old new n t h =
    adds_one h.node (uid_item (uid_parts u)) old new h.has (
      h.kind_is,
      h.at.0,
      λ a. (h.kind_is, (u, (h.at.0, subst (IsReadOf u) h.at.2 (read_of_printed u s (printed_text u s n t a))), refl)),
    ) (h.len_is, h.number_is)

-- A node and all of its operands are written.
pub writes_all : (t : Tree) (N : Type 0) (i : Item) (is : List Item) (old new : WrittenParts) (before : List Pending)
    → N → Adds (i ∷ is) old new → flat t ≡ i ∷ is → Writes t N old new before before
writes_all t N i is old new before n a e = record {
  first = i;
  others = is;
  adds = a;
  whole = ap (λ l. pending_items before ++ l) (sym e);
  named = λ h. (h, n);
}

-- A node is written, and its operands are pushed.
pub writes_node : (i : Item) (ts : Trees) (N : Type 0) (old new : WrittenParts) (before after : List Pending)
    → Adds (i ∷ []) old new → Pushes (flats ts) N before after → Writes (node i ts) N old new before after
writes_node i ts N old new before after a p = record {
  first = i;
  others = [];
  adds = a;
  whole = ap (λ l. l ++ i ∷ []) p.items ∙ append_assoc (pending_items before) (flats ts) (i ∷ []);
  named = p.named;
}

-- The same for one operand and for two.
pub writes_one : (i : Item) (t : Tree) (N : Type 0) (old new : WrittenParts) (before after : List Pending)
    → Adds (i ∷ []) old new → Pushes (flat t) N before after
    → Writes (node i (tree_then t no_trees)) N old new before after
writes_one i t N old new before after a p =
    writes_node i (tree_then t no_trees) N old new before after a
    (subst (λ is. Pushes is N before after) (sym (append-nil (flat t))) p)

pub writes_two : (i : Item) (t u : Tree) (N : Type 0) (old new : WrittenParts) (before after : List Pending)
    → Adds (i ∷ []) old new → Pushes (flat t ++ flat u) N before after
    → Writes (node i (tree_then t (tree_then u no_trees))) N old new before after
writes_two i t u N old new before after a p =
    writes_node i (tree_then t (tree_then u no_trees)) N old new before after a
    (subst (λ is. Pushes (flat t ++ is) N before after) (sym (append-nil (flat u))) p)

-- One more element on the stack.
pub pending_more : (ps : List Pending) (p : Pending)
    → pending_items (ps ++ p ∷ []) ≡ pending_items ps ++ flat (pending_tree p)
pending_more [] p = append-nil (flat (pending_tree p))
pending_more (q ∷ ps) p =
    ap (λ l. flat (pending_tree q) ++ l) (pending_more ps p)
    ∙ sym (append_assoc (flat (pending_tree q)) (pending_items ps) (flat (pending_tree p)))

named_more : (ps : List Pending) (p : Pending) → AreNamed ps × IsNamed p → AreNamed (ps ++ p ∷ [])
named_more [] p h = (h.1, tt)
named_more (q ∷ ps) p h = (h.0.0, named_more ps p (h.0.1, h.1))

named_less : (ps : List Pending) (p : Pending) → AreNamed (ps ++ p ∷ []) → AreNamed ps × IsNamed p
named_less [] p h = (tt, h.0)
named_less (q ∷ ps) p h = let r : AreNamed ps × IsNamed p = named_less ps p h.1 in ((h.0, r.0), r.1)

-- Nothing is pushed.
pub pushes_none : (N : Type 0) (ps : List Pending) → N → Pushes [] N ps ps
pushes_none N ps n = record { items = sym (append-nil (pending_items ps)); named = λ h. (h, n) }

-- One more element is pushed.
pub pushed_more : (is : List Item) (N M : Type 0) (start ps ps' : List Pending) (p : Pending) → ps' ≡ ps ++ p ∷ []
    → (N → IsNamed p → M) → Pushes is N start ps → Pushes (is ++ flat (pending_tree p)) M start ps'
pushed_more is N M start ps ps' p e f h = record {
  items =
      ap pending_items e ∙ pending_more ps p ∙ ap (λ l. l ++ flat (pending_tree p)) h.items
      ∙ append_assoc (pending_items start) is (flat (pending_tree p));
  named =
      λ a. let b : AreNamed ps × IsNamed p = named_less ps p (subst AreNamed e a) in
      let k : AreNamed start × N = h.named b.0 in
      (k.0, f k.1 b.1);
}

-- A single element is pushed.
pub pushed_one : (start ps : List Pending) (p : Pending) → ps ≡ start ++ p ∷ []
    → Pushes (flat (pending_tree p)) (IsNamed p) start ps
pushed_one start ps p e =
    pushed_more [] (Unit {0}) (IsNamed p) start start ps p e (λ _ n. n) (pushes_none (Unit {0}) start tt)

-- Two lists are pushed, one after the other.
pub pushed_both : (is js : List Item) (N M : Type 0) (start ps ps' : List Pending) → Pushes is N start ps
    → Pushes js M ps ps' → Pushes (is ++ js) (N × M) start ps'
pushed_both is js N M start ps ps' h g = record {
  items = g.items ∙ ap (λ l. l ++ js) h.items ∙ append_assoc (pending_items start) is js;
  named =
      λ a. let b : AreNamed ps × M = g.named a in
      let k : AreNamed start × N = h.named b.0 in
      (k.0, (k.1, b.1));
}

-- The items of a list of trees with one more tree. F are the items of a list, and f of an element.
one_more : {V : Type 0} (F : List V → List Item) (f : V → List Item) → F [] ≡ []
    → ((x : V) (xs : List V) → F (x ∷ xs) ≡ f x ++ F xs) → (xs : List V) (x : V) → F (xs ++ x ∷ []) ≡ F xs ++ f x
one_more F f none step [] x = step x [] ∙ ap (λ l. f x ++ l) none ∙ append-nil (f x) ∙ ap (λ l. l ++ f x) (sym none)
one_more F f none step (y ∷ ys) x =
    step y (ys ++ x ∷ []) ∙ ap (λ l. f y ++ l) (one_more F f none step ys x) ∙ sym (append_assoc (f y) (F ys) (f x))
    ∙ ap (λ l. l ++ f x) (sym (step y ys))

values_more : (vs : List ValueTree) (v : ValueTree)
    → flats (values_plan (value_trees (vs ++ v ∷ []))) ≡ flats (values_plan (value_trees vs)) ++ flat (value_plan v)
values_more = one_more (λ vs. flats (values_plan (value_trees vs))) (λ v. flat (value_plan v)) refl (λ x xs. refl)

exprs_more : (es : List ExprTree) (e : ExprTree)
    → flats (exprs_plan (expr_trees (es ++ e ∷ []))) ≡ flats (exprs_plan (expr_trees es)) ++ flat (expr_plan e)
exprs_more = one_more (λ es. flats (exprs_plan (expr_trees es))) (λ e. flat (expr_plan e)) refl (λ x xs. refl)

have_more : (es : List ExprTree) (e : ExprTree) → HaveNames (expr_trees es) → HasNames e
    → HaveNames (expr_trees (es ++ e ∷ []))
have_more [] e h n = (n, tt)
have_more (d ∷ es) e h n = (h.0, have_more es e h.1 n)

abbrev pub Entry : Type 0
Entry = String Global × ValueTree

fields_more : (fs : List Entry) (f : Entry)
    → flats (fields_plan (field_trees (fs ++ f ∷ [])))
    ≡ (flats (fields_plan (field_trees fs)) ++ flat (text_leaf (string_bytes f.0))) ++ flat (value_plan f.1)
fields_more [] f = ap (λ l. text_item (string_bytes f.0) ∷ l) (append-nil (flat (value_plan f.1)))
fields_more (g ∷ fs) f =
    ap (λ l. text_item (string_bytes g.0) ∷ (flat (value_plan g.1) ++ l)) (fields_more fs f)
    ∙ ap (λ l. text_item (string_bytes g.0) ∷ l) (
    sym (append_assoc (flat (value_plan g.1))
    (flats (fields_plan (field_trees fs)) ++ flat (text_leaf (string_bytes f.0))) (flat (value_plan f.1)))
    ∙ ap (λ l. l ++ flat (value_plan f.1))
    (sym (append_assoc (flat (value_plan g.1)) (flats (fields_plan (field_trees fs)))
    (flat (text_leaf (string_bytes f.0))))))

-- The next of some values is pushed.
pub value_pushed : (start : List Pending) (vs : List ValueTree) (k : ℕ) (d : ValueTree) (v : Bor ValueTree)
    (ps ps' : List Pending) → k < length vs → v.now ≡ get_or vs k d → ps' ≡ ps ++ pendings.Value v ∷ []
    → Pushes (flats (values_plan (value_trees (take k vs)))) (Unit {0}) start ps
    → Pushes (flats (values_plan (value_trees (take (k + 1) vs)))) (Unit {0}) start ps'
value_pushed start vs k d v ps ps' l is e h =
    subst (λ js. Pushes js (Unit {0}) start ps') (
    ap (λ (x : ValueTree). flats (values_plan (value_trees (take k vs))) ++ flat (value_plan x)) is
    ∙ sym (values_more (take k vs) (get_or vs k d))
    ∙ ap (λ x. flats (values_plan (value_trees x))) (sym (take_more vs k d l)))
    (pushed_more (flats (values_plan (value_trees (take k vs)))) (Unit {0}) (Unit {0}) start ps ps' (pendings.Value v) e
    (λ _ _. tt) h)

-- The next of some expressions is pushed.
pub expr_pushed : (start : List Pending) (es : List ExprTree) (k : ℕ) (d : ExprTree) (e : Bor ExprTree)
    (ps ps' : List Pending) → k < length es → e.now ≡ get_or es k d → ps' ≡ ps ++ pendings.Expr e ∷ []
    → Pushes (flats (exprs_plan (expr_trees (take k es)))) (HaveNames (expr_trees (take k es))) start ps
    → Pushes (flats (exprs_plan (expr_trees (take (k + 1) es)))) (HaveNames (expr_trees (take (k + 1) es))) start ps'
expr_pushed start es k d e ps ps' l is q h =
    subst (λ js. Pushes js (HaveNames (expr_trees (take (k + 1) es))) start ps') (
    ap (λ (x : ExprTree). flats (exprs_plan (expr_trees (take k es))) ++ flat (expr_plan x)) is
    ∙ sym (exprs_more (take k es) (get_or es k d))
    ∙ ap (λ x. flats (exprs_plan (expr_trees x))) (sym (take_more es k d l)))
    (pushed_more (flats (exprs_plan (expr_trees (take k es)))) (HaveNames (expr_trees (take k es)))
    (HaveNames (expr_trees (take (k + 1) es))) start ps ps' (pendings.Expr e) q
    (λ a b. subst (λ (x : List ExprTree). HaveNames (expr_trees x)) (sym (take_more es k d l))
    (have_more (take k es) (get_or es k d) a (subst HasNames is b))) h)

-- The key and the value of the next pair of a record are pushed.
pub field_pushed : (start : List Pending) (fs : List Entry) (key : Bor (String Global))
    (v : Bor ValueTree) (ps ps' ps'' : List Pending) → ps' ≡ ps ++ pendings.Text key ∷ []
    → ps'' ≡ ps' ++ pendings.Value v ∷ [] → Pushes (flats (fields_plan (field_trees fs))) (Unit {0}) start ps
    → Pushes (flats (fields_plan (field_trees (fs ++ (key.now, v.now) ∷ [])))) (Unit {0}) start ps''
field_pushed start fs key v ps ps' ps'' e f h =
    subst (λ js. Pushes js (Unit {0}) start ps'') (sym (fields_more fs (key.now, v.now)))
    (pushed_more (flats (fields_plan (field_trees fs)) ++ flat (text_leaf (string_bytes key.now))) (Unit {0}) (Unit {0})
    start ps' ps'' (pendings.Value v) f (λ _ _. tt)
    (pushed_more (flats (fields_plan (field_trees fs))) (Unit {0}) (Unit {0}) start ps ps' (pendings.Text key) e
    (λ _ _. tt) h))

pub values_counted : (vs : List ValueTree) → values_count (value_trees vs) ≡ length vs
values_counted [] = refl
values_counted (v ∷ vs) = omega (arith, values_counted vs)

pub fields_counted : (fs : List (String Global × ValueTree)) → fields_count (field_trees fs) ≡ length fs
fields_counted [] = refl
fields_counted (f ∷ fs) = omega (arith, fields_counted fs)

pub exprs_counted : (es : List ExprTree) → exprs_count (expr_trees es) ≡ length es
exprs_counted [] = refl
exprs_counted (e ∷ es) = omega (arith, exprs_counted es)

-- The encoded nodes so far, and the remaining values.
pub record Drafted (whole : Pending) (w : WrittenParts) (ps : List Pending) : Type 0 where
  pub items : List Item
  pub notes : AllEncode w.bytes w.nodes items
  pub all : pending_items ps ++ items ≡ flat (pending_tree whole)
  pub named : AreNamed ps → IsNamed whole

-- Nothing is encoded.
pub drafted_first : (p : Pending) (w : WrittenParts) (ps : List Pending) → w ≡ record { bytes = []; nodes = [] }
    → ps ≡ p ∷ [] → Drafted p w ps
drafted_first p w ps e f = record {
  items = [];
  notes = subst (λ (x : WrittenParts). AllEncode x.bytes x.nodes []) (sym e) tt;
  all = append-nil (pending_items ps) ∙ ap pending_items f ∙ append-nil (flat (pending_tree p));
  named = λ h. (named_less [] p (subst AreNamed f h)).1;
}

-- The element on top is encoded.
pub drafted_next : (whole : Pending) (w w' : WrittenParts) (ps less after : List Pending) (p : Pending)
    → ps ≡ less ++ p ∷ [] → Drafted whole w ps → Writes (pending_tree p) (IsNamed p) w w' less after
    → Drafted whole w' after
drafted_next whole w w' ps less after p e d s = record {
  items = s.first ∷ s.others ++ d.items;
  notes =
      subst (λ ns. AllEncode w'.bytes ns (s.first ∷ s.others ++ d.items)) (sym s.adds.nodes)
      (zip_append (IsNodeFor w'.bytes) s.adds.added (s.first ∷ s.others) w.nodes d.items s.adds.notes
      (subst (λ bs. AllEncode bs w.nodes d.items) (sym s.adds.bytes)
      (all_kept w.bytes s.adds.more w.nodes d.items d.notes)));
  all =
      sym (append_assoc (pending_items after) (s.first ∷ s.others) d.items)
      ∙ ap (λ l. l ++ d.items) (s.whole ∙ sym (pending_more less p) ∙ ap pending_items (sym e))
      ∙ d.all;
  named = λ h. d.named (subst AreNamed (sym e) (named_more less p (s.named h)));
}

-- Fewer items remain.
pub less_left : (w w' : WrittenParts) (ps less after : List Pending) (p : Pending) → ps ≡ less ++ p ∷ []
    → Writes (pending_tree p) (IsNamed p) w w' less after → length (pending_items after) < length (pending_items ps)
less_left w w' ps less after p e s =
    let left : length (pending_items after ++ s.first ∷ s.others) ≡ length (pending_items ps) =
    ap length (s.whole ∙ sym (pending_more less p) ∙ ap pending_items (sym e)) in
    omega (arith, left, length-append (pending_items after) (s.first ∷ s.others))

-- Everything is encoded.
pub drafted_last : (whole : Pending) (w : WrittenParts) (ps : List Pending) → ps ≡ [] → Drafted whole w ps
    → IsWrittenAs (flat (pending_tree whole)) w × IsNamed whole
drafted_last whole w ps e d = (
  subst (AllEncode w.bytes w.nodes) (ap (λ l. pending_items l ++ d.items) (sym e) ∙ d.all) d.notes,
  d.named (subst AreNamed (sym e) tt),
)
