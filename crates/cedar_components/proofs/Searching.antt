-- Invariants of a depth-first search.
use Rattle.std.proofs.Common.{◌≡◌, ℕ, ◌+◌, ◌-◌, ◌*◌, ◌<◌, [], ◌∙◌, arith}
use Rattle.std.proofs.Common.{length, get_or, set, sum, get_or-set_same}
use Rattle.std.proofs.lemmas.Grind.{get_or_default_zero}
use Rattle.cedar_components.specs.laws.Arcs.{IsArc}
use Rattle.cedar_components.specs.laws.Search.{IsSearch, Searches, IsSeen, IsUnseen, Opens, Finishes, GoesOn, work_left}
use Rattle.cedar_components.specs.declared.links.Arcs.{Arcs}
use Rattle.cedar_components.specs.declared.search.Search.{Search}
use Rattle.cedar_components.proofs.Steps.{opened_next, finished_last, opened_root, arc_inside, next_arc, all_seen}
use Rattle.cedar_components.proofs.Steps.{sum_less, read_next, read_kept, positive_kept}

module _ (w : ℕ) (s t : Search) (o : Opens w s t) where
  -- Numbers that were seen are still seen after a number is opened.
  pub opens_stays : (x : ℕ) → IsSeen s x → IsSeen t x
  opens_stays x h = rw o.start (positive_kept s.start.items w (length s.out.items) x h)

  pub opens_seen : w < length s.start.items → IsSeen t w
  opens_seen within = rw (o.start, get_or-set_same s.start.items w (length s.out.items + 1) 0 within) (omega arith)

  -- A search begins with a number that was not seen.
  pub root_opened : (a : Arcs) → Searches a (length s.start.items) s → IsUnseen s w → s.path.items ≡ []
      → GoesOn a s t
  root_opened a h unseen none =
      let n = length s.start.items in
      let begun = opened_root (IsArc a) n s.start.items s.path.items s.out.items w h.search unseen.within
      unseen.fresh none in
      let read = read_kept a.from.now a.to.now n s.start.items s.next.items w (length s.out.items) h.read in
      record {
        searches = record {
          arcs = h.arcs;
          search = rw (o.start, o.path, o.out) begun;
          read = rw (o.start, o.next) read;
        };
        stays = opens_stays;
      }

-- `v` is the last open number. `m` is one more than the index of its next arc, or 0 if none is left.
module _ (a : Arcs) (s : Search) (h : Searches a (length s.start.items) s) (v m : ℕ) (some : 0 < length s.path.items)
    (last : v ≡ get_or s.path.items (length s.path.items - 1) 0) (is : m ≡ get_or s.next.items v m) where
  v_in : v < length s.start.items
  v_in = rw last (h.search.path_in (length s.path.items - 1) (omega arith)).0

  v_next : v < length s.next.items
  v_next = omega (arith, h.read.next_len, v_in)

  at_v : m ≡ get_or s.next.items v 0
  at_v = is ∙ get_or_default_zero s.next.items v m v_next

  -- The number is finished after all its arcs are read.
  pub last_finished : (t : Search) → Finishes s t → m ≡ 0 → GoesOn a s t
  last_finished t f none =
      let n = length s.start.items in
      let z = get_or s.path.items (length s.path.items - 1) 0 in
      let z_in : z < n = rw (← last) v_in in
      let z_none : get_or s.next.items z 0 ≡ 0 = rw (← last) (omega (arith, at_v)) in
      let done = finished_last (IsArc a) n s.start.items s.path.items t.path.items s.out.items z h.search f.path
      (λ y e. all_seen a n h.arcs s.start.items s.next.items h.read z y z_in z_none e)
      (λ y e. arc_inside a.from.now a.to.now n h.arcs.arcs z y e) in
      record {
        searches = record {
          arcs = h.arcs;
          search = rw (f.start, f.out) done;
          read = rw (f.start, f.next) h.read;
        };
        stays = λ x k. rw f.start k;
      }

  module _ (more : 0 < m) where
    arc : IsArc a v (get_or a.to.now (m - 1) 0)
    arc = next_arc a (length s.start.items) h.arcs s.start.items s.next.items h.read v m v_in at_v more

    -- The target of the arc is one of the numbers.
    pub target_in : get_or a.to.now (m - 1) 0 < length s.start.items
    target_in = arc_inside a.from.now a.to.now (length s.start.items) h.arcs.arcs v (get_or a.to.now (m - 1) 0) arc

    -- The target of the arc was not seen and is opened.
    pub opened : (t : Search) → Opens (get_or a.to.now (m - 1) 0) s t
        → get_or s.start.items (get_or a.to.now (m - 1) 0) 0 ≡ 0
        → IsSearch (IsArc a) (length s.start.items) t.start.items t.path.items t.out.items
    opened t o fresh =
        let n = length s.start.items in
        let w = get_or a.to.now (m - 1) 0 in
        rw (o.start, o.path, o.out)
        (opened_next (IsArc a) n s.start.items s.path.items s.out.items v w h.search target_in fresh some last arc)

    -- The remaining work decreases when the arc is read and at most one number is opened.
    pub less : (t : Search) → t.next.items ≡ s.next.items → length t.path.items < length s.path.items + 2
        → 2 * sum (set t.next.items v (get_or a.link.now (m - 1) 0)) + length t.path.items < work_left s
    less t next few =
        let k_in : m - 1 < length a.from.now = omega (arith, at_v, h.read.next_in v v_in) in
        let y = get_or a.link.now (m - 1) 0 in
        let lower : y < m = omega (arith, h.arcs.links.link_in (m - 1) k_in) in
        let e = sum_less s.next.items v m y v_next at_v lower in
        rw next (omega (arith, e))

    -- `u` is `t` after the arc is read.
    pub reads : (t u : Search) → t.next.items ≡ s.next.items → u.start.items ≡ t.start.items
        → u.path.items ≡ t.path.items → u.out.items ≡ t.out.items
        → u.next.items ≡ set t.next.items v (get_or a.link.now (m - 1) 0)
        → IsSearch (IsArc a) (length s.start.items) t.start.items t.path.items t.out.items
        → ((x : ℕ) → IsSeen s x → IsSeen t x) → IsSeen t (get_or a.to.now (m - 1) 0) → GoesOn a s u
    reads t u next start_is path_is out_is next_is search stays seen =
        let n = length s.start.items in
        let read = read_next a n h.arcs s.start.items s.next.items h.read t.start.items v m v_in at_v more stays seen in
        record {
          searches = record {
            arcs = h.arcs;
            search = rw (start_is, path_is, out_is) search;
            read = rw (start_is, next_is, next) read;
          };
          stays = λ x k. rw start_is (stays x k);
        }
