-- The steps of the search preserve its invariants.
use Rattle.std.proofs.Common.{◌≡◌, ◌≢◌, ℕ, ◌+◌, ◌-◌, ◌<◌, ◌≤◌, ◌⊎◌, inl, inr}
use Rattle.std.proofs.Common.{List, [], ◌∷◌, ◌++◌}
use Rattle.std.proofs.Common.{length, get_or, set, refl, sym, ap, subst, ◌∙◌, arith}
use Rattle.std.proofs.Common.{length-append, length-set, get_or-set_same, get_or-set_other}
use Rattle.std.proofs.lemmas.List.{get_or_append_left}
use Rattle.std.proofs.Math.Seq.{get_or-append_seam}
use Rattle.std.specs.List.{sum, sum_by}
use Rattle.std.proofs.lemmas.List.Sums.{sum_by-set}
use Rattle.std.proofs.lemmas.Grind.{common_steps}
use Rattle.std.proofs.lemmas.Bool.{cases_lt, cases_eq}
use Rattle.cedar_components.specs.Reach.{Walk, Leads, AreArcs, HasArc}
use Rattle.cedar_components.specs.laws.Numbers.{IsIn}
use Rattle.cedar_components.specs.laws.Arcs.{IsArc, AreForward, AreLinksTo}
use Rattle.cedar_components.specs.laws.Search.{IsSearch, AreRead, IsFinishOrder}
use Rattle.cedar_components.specs.declared.links.Arcs.{Arcs}

module _ (E : ℕ → ℕ → Type 0) where
  walk_append : (a b c : ℕ) (xs ys : List ℕ) → Walk E a xs b → Walk E b ys c → Walk E a (xs ++ ys) c
  walk_append a b c [] ys p q = subst (λ z. Walk E z ys c) (sym p) q
  walk_append a b c (x ∷ xs) ys p q = (p.0, walk_append x b c xs ys p.1 q)

  pub Leads-refl : (a : ℕ) → Leads E a a
  unfolding Leads
  Leads-refl a = ([], refl)

  pub Leads-edge : (a b : ℕ) → E a b → Leads E a b
  unfolding Leads
  Leads-edge a b e = (b ∷ [], (e, refl))

  pub Leads-trans : (a b c : ℕ) → Leads E a b → Leads E b c → Leads E a c
  unfolding Leads
  Leads-trans a b c p q = (p.0 ++ q.0, walk_append a b c p.0 q.0 p.1 q.1)

-- An index of a list with one more element at its end is an old index or the last one.
pub push_cases : (xs : List ℕ) (x i : ℕ) → i < length (xs ++ x ∷ [])
    → ((i < length xs) × (get_or (xs ++ x ∷ []) i 0 ≡ get_or xs i 0))
    ⊎ ((i ≡ length xs) × (get_or (xs ++ x ∷ []) i 0 ≡ x))
push_cases xs x i h =
    elim (cases_lt i (length xs)) [
      | inl p ↦ inl (p, get_or_append_left xs (x ∷ []) 0 i p)
      | inr p ↦
          let e : i ≡ length xs = omega (arith, length-append xs (x ∷ [])) in
          inr (e, ap (λ k. get_or (xs ++ x ∷ []) k 0) e ∙ get_or-append_seam xs x [] 0)
    ]

pub in_push : (xs : List ℕ) (x y : ℕ) → IsIn xs y → IsIn (xs ++ x ∷ []) y
in_push xs x y p =
    (p.0, omega (arith, p.1, length-append xs (x ∷ [])), get_or_append_left xs (x ∷ []) 0 p.0 p.1 ∙ p.2)

pub in_push_last : (xs : List ℕ) (x : ℕ) → IsIn (xs ++ x ∷ []) x
in_push_last xs x = (length xs, omega (arith, length-append xs (x ∷ [])), get_or-append_seam xs x [] 0)

module _ (E : ℕ → ℕ → Type 0) (n : ℕ) (start path out : List ℕ) (w : ℕ) (s : IsSearch E n start path out)
    (within : w < n) (fresh : get_or start w 0 ≡ 0) where
  kept : (x : ℕ) → 0 < get_or start x 0 → get_or (set start w (length out + 1)) x 0 ≡ get_or start x 0
  kept x h =
      let other : x ≢ w = λ e.
      let k : get_or start x 0 ≡ get_or start w 0 = ap (λ y. get_or start y 0) e in
      absurd (omega arith) in
      get_or-set_other start w x (length out + 1) 0 other

  newly : get_or (set start w (length out + 1)) w 0 ≡ length out + 1
  newly =
      let h : w < length start = omega (arith, s.start_len) in
      get_or-set_same start w (length out + 1) 0 h

  either : (x : ℕ) → (x ≡ w) ⊎ (get_or (set start w (length out + 1)) x 0 ≡ get_or start x 0)
  either x = elim (cases_eq x w) [
    | inl e ↦ inl e
    | inr ne ↦ inr (get_or-set_other start w x (length out + 1) 0 ne)
  ]

  -- A number that was not seen is opened.
  pub opened : ((i : ℕ) → i < length path → Leads E (get_or path i 0) w)
      → IsSearch E n (set start w (length out + 1)) (path ++ w ∷ []) out
  opened leads = record {
    start_len = length-set start w (length out + 1) ∙ s.start_len;
    path_in = λ i h. elim (push_cases path w i h) [
      | inl p ↦
          let e = s.path_in i p.0 in
          rw p.1 (e.0, rw (kept (get_or path i 0) e.1) e.1)
      | inr p ↦ rw p.1 (within, rw newly (omega arith))
    ];
    out_in = λ q h. let e = s.out_in q h in rw (kept (get_or out q 0) e.1) e;
    starts = λ x h. elim (either x) [ inl e ↦ rw (e, newly) (omega arith) | inr e ↦ rw e (s.starts x h) ];
    up = λ i j le h. elim (push_cases path w j h) [
      | inl p ↦ rw (p.1, get_or_append_left path (w ∷ []) 0 i (omega arith)) (s.up i j le p.0)
      | inr p ↦ elim (push_cases path w i (omega arith)) [
        | inl k ↦ rw (p.1, k.1) (leads i k.0)
        | inr k ↦ rw (p.1, k.1) (Leads-refl E w)
      ]
    ];
    desc_path = λ i z h k le. elim (push_cases path w i h) [
      | inl p ↦
          let e = kept (get_or path i 0) (s.path_in i p.0).1 in
          rw p.1 (s.desc_path i z p.0 k (rw (← e) (rw p.1 at le)))
      | inr p ↦ absurd (let e : length out + 1 ≤ z + 1 = rw newly at (rw p.1 at le) in omega arith)
    ];
    desc_out = λ r z h k le. s.desc_out r z h k (rw (kept (get_or out r 0) (s.out_in r h).1) at le);
    edges = λ q y h e. let f = s.edges q y h e in rw (kept y f.0) f;
    seen = λ x h k. elim (either x) [
      | inl e ↦ inl (rw e (in_push_last path w))
      | inr e ↦ elim (s.seen x h (rw e at k)) [ inl p ↦ inl (in_push path w x p) | inr p ↦ inr p ]
    ];
  }

module _ (E : ℕ → ℕ → Type 0) (n : ℕ) (start rest out : List ℕ) (v : ℕ)
    (s : IsSearch E n start (rest ++ v ∷ []) out) where
  more : length (rest ++ v ∷ []) ≡ length rest + 1
  more = omega (arith, length-append rest (v ∷ []))

  below : (i : ℕ) → i < length rest → get_or (rest ++ v ∷ []) i 0 ≡ get_or rest i 0
  below i h = get_or_append_left rest (v ∷ []) 0 i h

  top : get_or (rest ++ v ∷ []) (length rest) 0 ≡ v
  top = get_or-append_seam rest v [] 0

  -- The last open number is finished, after all its targets were seen.
  pub finished : ((y : ℕ) → E v y → 0 < get_or start y 0) → ((y : ℕ) → E v y → y < n)
      → IsSearch E n start rest (out ++ v ∷ [])
  finished read inside = record {
    start_len = s.start_len;
    path_in = λ i h. rw (← below i h) (s.path_in i (omega (arith, more)));
    out_in = λ q h. elim (push_cases out v q h) [
      | inl p ↦ rw p.1 (s.out_in q p.0)
      | inr p ↦
          let e = s.path_in (length rest) (omega (arith, more)) in
          let f : (v < n) × (0 < get_or start v 0) = rw top at e in
          rw p.1 (f.0, f.1, omega (arith, s.starts v f.0))
    ];
    starts = λ x h. omega (arith, s.starts x h, length-append out (v ∷ []));
    up = λ i j le h. rw (← below i (omega arith), ← below j h) (s.up i j le (omega (arith, more)));
    desc_path = λ i z h k le. elim (push_cases out v z k) [
      | inl p ↦ rw (← below i h, p.1) (s.desc_path i z (omega (arith, more)) p.0 (rw (below i h) le))
      | inr p ↦
          let e = s.up i (length rest) (omega arith) (omega (arith, more)) in
          rw (← below i h, p.1) (rw top at e)
    ];
    desc_out = λ r z h k le. elim (push_cases out v r h) [
      | inl p ↦
          let lower = get_or_append_left out (v ∷ []) 0 z (omega arith) in
          rw (p.1, lower) (s.desc_out r z p.0 k (rw p.1 at le))
      | inr p ↦ elim (push_cases out v z (omega (arith, length-append out (v ∷ [])))) [
        | inl m ↦
            let e = s.desc_path (length rest) z (omega (arith, more)) m.0 (rw top (rw p.1 at le)) in
            rw (p.1, m.1) (rw top at e)
        | inr m ↦ rw (p.1, m.1) (Leads-refl E v)
      ]
    ];
    edges = λ q y h e. elim (push_cases out v q h) [
      | inl p ↦ s.edges q y p.0 (rw p.1 at e)
      | inr p ↦ let f : E v y = rw p.1 at e in (read y f, omega (arith, s.starts y (inside y f)))
    ];
    seen = λ x h k. elim (s.seen x h k) [
      | inl p ↦ elim (push_cases rest v p.0 p.1) [
        | inl m ↦ inl (p.0, m.0, sym m.1 ∙ p.2)
        | inr m ↦ inr (subst (IsIn (out ++ v ∷ [])) (sym m.1 ∙ p.2) (in_push_last out v))
      ]
      | inr p ↦ inr (in_push out v x p)
    ];
  }

-- A target of the last open number that was not seen is opened.
pub opened_next : (E : ℕ → ℕ → Type 0) (n : ℕ) (start path out : List ℕ) (v w : ℕ)
    → IsSearch E n start path out → w < n → get_or start w 0 ≡ 0 → 0 < length path
    → v ≡ get_or path (length path - 1) 0 → E v w
    → IsSearch E n (set start w (length out + 1)) (path ++ w ∷ []) out
opened_next E n start path out v w s within fresh some last e =
    let from : (i : ℕ) → i < length path → Leads E (get_or path i 0) v =
    λ i h. rw last (s.up i (length path - 1) (omega arith) (omega arith)) in
    opened E n start path out w s within fresh
    (λ i h. Leads-trans E (get_or path i 0) v w (from i h) (Leads-edge E v w e))

-- The last open number is finished.
pub finished_last : (E : ℕ → ℕ → Type 0) (n : ℕ) (start path rest out : List ℕ) (v : ℕ)
    → IsSearch E n start path out → path ≡ rest ++ v ∷ [] → ((y : ℕ) → E v y → 0 < get_or start y 0)
    → ((y : ℕ) → E v y → y < n) → IsSearch E n start rest (out ++ v ∷ [])
finished_last E n start path rest out v s is read inside =
    finished E n start rest out v (subst (λ p. IsSearch E n start p out) is s) read inside

-- A number is opened when the path is empty.
pub opened_root : (E : ℕ → ℕ → Type 0) (n : ℕ) (start path out : List ℕ) (w : ℕ)
    → IsSearch E n start path out → w < n → get_or start w 0 ≡ 0 → path ≡ []
    → IsSearch E n (set start w (length out + 1)) (path ++ w ∷ []) out
opened_root E n start path out w s within fresh none =
    let empty : length path ≡ 0 = ap length none in
    opened E n start path out w s within fresh (λ i h. absurd (omega arith))

-- The chains of one more index.
module _ (ends : List ℕ) (m : ℕ) (head link : List ℕ) (n : ℕ) (s : AreLinksTo ends m head link n)
    (within : m < length ends) (a : ℕ) (value : get_or ends m 0 ≡ a) (a_in : a < n) where
  at_a : get_or (set head a (m + 1)) a 0 ≡ m + 1
  at_a =
      let h : a < length head = omega (arith, s.head_len, a_in) in
      get_or-set_same head a (m + 1) 0 h

  not_a : (x : ℕ) → x ≢ a → get_or (set head a (m + 1)) x 0 ≡ get_or head x 0
  not_a x ne = get_or-set_other head a x (m + 1) 0 ne

  old : (k : ℕ) → k < m → get_or (link ++ get_or head a 0 ∷ []) k 0 ≡ get_or link k 0
  old k h = get_or_append_left link (get_or head a 0 ∷ []) 0 k (omega (arith, s.link_len))

  new : get_or (link ++ get_or head a 0 ∷ []) m 0 ≡ get_or head a 0
  new = ap (λ k. get_or (link ++ get_or head a 0 ∷ []) k 0) (sym s.link_len)
      ∙ get_or-append_seam link (get_or head a 0) [] 0

  pub linked : AreLinksTo ends (m + 1) (set head a (m + 1)) (link ++ get_or head a 0 ∷ []) n
  linked = record {
    head_len = length-set head a (m + 1) ∙ s.head_len;
    link_len = omega (arith, s.link_len, length-append link (get_or head a 0 ∷ []));
    head_in = λ x h. elim (cases_eq x a) [
      | inl e ↦ rw (e, at_a) (omega arith)
      | inr ne ↦ rw (not_a x ne) (omega (arith, s.head_in x h))
    ];
    head_end = λ x h some. elim (cases_eq x a) [
      | inl e ↦ let back : m + 1 - 1 ≡ m = omega arith in rw (e, at_a, back) value
      | inr ne ↦ rw (not_a x ne) (s.head_end x h (rw (not_a x ne) at some))
    ];
    head_all = λ x k h k_in is. elim (cases_eq x a) [
      | inl e ↦ rw (e, at_a) (omega arith)
      | inr ne ↦ elim (cases_eq k m) [
        | inl f ↦ absurd (ne (sym is ∙ ap (λ i. get_or ends i 0) f ∙ value))
        | inr lt ↦ rw (not_a x ne) (s.head_all x k h (omega arith) is)
      ]
    ];
    link_in = λ k h. elim (cases_eq k m) [
      | inl e ↦ rw (e, new) (s.head_in a a_in)
      | inr ne ↦ rw (old k (omega arith)) (s.link_in k (omega arith))
    ];
    link_end = λ k h some. elim (cases_eq k m) [
      | inl e ↦ rw (e, new, value) (s.head_end a a_in (rw (e, new) at some))
      | inr ne ↦ rw (old k (omega arith)) (s.link_end k (omega arith) (rw (old k (omega arith)) at some))
    ];
    link_all = λ j k h lt is. elim (cases_eq k m) [
      | inl e ↦ rw (e, new) (s.head_all a j a_in (omega arith) (is ∙ ap (λ i. get_or ends i 0) e ∙ value))
      | inr ne ↦ rw (old k (omega arith)) (s.link_all j k (omega arith) lt is)
    ];
  }

-- The target of an arc is one of the numbers.
pub arc_inside : (from to : List ℕ) (n : ℕ) → AreArcs from to n → (v y : ℕ) → HasArc from to v y → y < n
arc_inside from to n arcs v y e = rw (← e.3) (arcs.to_in e.0 e.1)

module _ (a : Arcs) (n : ℕ) (forward : AreForward a n) (start next : List ℕ)
    (r : AreRead a.from.now a.to.now n start next) where
  -- The next arc to read leads from the number.
  pub next_arc : (v m : ℕ) → v < n → m ≡ get_or next v 0 → 0 < m → IsArc a v (get_or a.to.now (m - 1) 0)
  next_arc v m h is some =
      rw is (get_or next v 0 - 1, omega (arith, r.next_in v h), r.next_from v h (omega arith), refl)

  pub all_seen : (v y : ℕ) → v < n → get_or next v 0 ≡ 0 → IsArc a v y → 0 < get_or start y 0
  all_seen v y h none e = let p = r.read v e.0 h e.1 e.2 (omega arith) in rw e.3 at p

  -- One more arc is read.
  pub read_next : (after : List ℕ) (v m : ℕ) → v < n → m ≡ get_or next v 0 → 0 < m
      → ((x : ℕ) → 0 < get_or start x 0 → 0 < get_or after x 0)
      → 0 < get_or after (get_or a.to.now (m - 1) 0) 0
      → AreRead a.from.now a.to.now n after (set next v (get_or a.link.now (m - 1) 0))
  read_next after v m h is some stays seen =
      let from = a.from.now in
      let to = a.to.now in
      let links = forward.links in
      let k = m - 1 in
      let then = get_or a.link.now k 0 in
      let k_in : k < length from = omega (arith, r.next_in v h) in
      let k_from : get_or from k 0 ≡ v = ap (λ i. get_or from (i - 1) 0) is ∙ r.next_from v h (omega arith) in
      let v_in : v < length next = omega (arith, r.next_len) in
      let here : get_or (set next v then) v 0 ≡ then = get_or-set_same next v then 0 v_in in
      let other : (x : ℕ) → x ≢ v → get_or (set next v then) x 0 ≡ get_or next x 0 =
      λ x ne. get_or-set_other next v x then 0 ne in
      record {
        next_len = length-set next v then ∙ r.next_len;
        next_in = λ x hx. elim (cases_eq x v) [
          | inl e ↦ rw (e, here) (omega (arith, links.link_in k k_in))
          | inr ne ↦ rw (other x ne) (r.next_in x hx)
        ];
        next_from = λ x hx some2. elim (cases_eq x v) [
          | inl e ↦ rw (e, here) (links.link_end k k_in (rw (e, here) at some2) ∙ k_from)
          | inr ne ↦ rw (other x ne) (r.next_from x hx (rw (other x ne) at some2))
        ];
        read = λ x j hx j_in j_from le. elim (cases_eq x v) [
          | inl e ↦
              let le2 : then ≤ j = rw (e, here) at le in
              elim (cases_eq j k) [
                | inl same ↦ rw same seen
                | inr ne ↦ elim (cases_lt j k) [
                  | inl lt ↦
                      let lower = links.link_all j k k_in lt (j_from ∙ e ∙ sym k_from) in
                      absurd (omega arith)
                  | inr ge ↦ stays (get_or to j 0) (r.read x j hx j_in j_from (rw e (omega arith)))
                ]
              ]
          | inr ne ↦ stays (get_or to j 0) (r.read x j hx j_in j_from (rw (other x ne) at le))
        ];
      }

sum_by_itself : (xs : List ℕ) → sum_by (λ (x : ℕ). x) xs ≡ sum xs
sum_by_itself xs = refl

pub sum_less : (xs : List ℕ) (i m y : ℕ) → i < length xs → m ≡ get_or xs i 0 → y < m
    → sum (set xs i y) + 1 ≤ sum xs
sum_less xs i m y h is less =
    omega (arith, sum_by-set (λ (x : ℕ). x) xs i y 0 h, sum_by_itself xs, sum_by_itself (set xs i y))

-- A positive entry stays positive when a positive number is written.
pub positive_kept : (xs : List ℕ) (w m x : ℕ) → 0 < get_or xs x 0 → 0 < get_or (set xs w (m + 1)) x 0
positive_kept xs w m x h = grind (arith, common_steps)

pub read_kept : (from to : List ℕ) (n : ℕ) (start next : List ℕ) (w m : ℕ) → AreRead from to n start next
    → AreRead from to n (set start w (m + 1)) next
read_kept from to n start next w m r = record {
  next_len = r.next_len;
  next_in = r.next_in;
  next_from = r.next_from;
  read = λ x k h i f le. positive_kept start w m (get_or to k 0) (r.read x k h i f le);
}

-- If no number is open and all were seen, the order is complete.
pub order_from_search : (E : ℕ → ℕ → Type 0) (n : ℕ) (start path out : List ℕ)
    → IsSearch E n start path out → path ≡ [] → ((x : ℕ) → x < n → 0 < get_or start x 0)
    → IsFinishOrder E n out
order_from_search E n start path out s none all = record {
  inside = λ q h. (s.out_in q h).0;
  all = λ x h. elim (s.seen x h (all x h)) [
    | inl p ↦ absurd (let e : length path ≡ 0 = ap length none in let f : p.0 < length path = p.1 in omega arith)
    | inr p ↦ p
  ];
  spans = λ q r z h e le lt. s.desc_out r z h lt (omega (arith, s.edges q (get_or out r 0) (omega arith) e));
}
