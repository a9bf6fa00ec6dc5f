-- What the search promises in the end.
use Rattle.std.proofs.Common.{◌≡◌, ℕ, ◌+◌, ◌*◌, ◌<◌, ◌≤◌, false, zero, suc, List, [], ◌∷◌, ◌++◌, length, map, get_or, Option, Some, None, IsTrue, inl, inr, refl, sym, ◌∙◌, ap, arith, subst}
use Rattle.std.specs.Prelude.{◌↔◌, option_map}
use Rattle.std.proofs.lemmas.List.{length-map}
use Rattle.std.proofs.lemmas.List.Elements.{All-nil}
use Rattle.mss_model.specs.declared.parts.TableParts.{TableParts}
use Rattle.mss_model.specs.Limits.{IsTables}
use Rattle.mss_model.specs.TableWords.{slot_count, option_count}
use Rattle.mss_model.specs.Peak.{peak_at, peak_below, peak_above}
use Rattle.mss_cert.specs.declared.certificate.Line.{Line}
use Rattle.mss_cert.specs.declared.certificate.Line.TheVariants.{Branch, Dead, Full, Closed, OpenAt}
use Rattle.mss_cert.specs.declared.certificate.End.TheVariants.{Lower, NoneLegal}
use Rattle.mss_pctl.specs.declared.first_largest.FirstLargest.{FirstLargest}
use Rattle.mss_floor.specs.FlooredLists.{floored_census}
use Rattle.mss_bounds.specs.PrefixBound.{bound_of}
use Rattle.mss_check.specs.Tree.{Task, Fits, under, Reads, number_of, lesser, least_number, end_of}
use Rattle.mss_check.specs.Coverage.{Sound}
use Rattle.mss_check.specs.Tasks.{task_of}
use Rattle.mss_check.specs.Validity.{IsValidFor}
use Rattle.mss_check.specs.AgreementLaws.{read_valid}
use Rattle.mss_check.specs.CoveringLaws.{Bounded, bounded}
use Rattle.mss_search.specs.declared.planner.Planned.{Planned}
use Rattle.mss_search.specs.declared.table.Node.{Node}
use Rattle.mss_search.specs.declared.queue.Waiting.{Waiting}
use Rattle.mss_search.specs.declared.search.Best.{Best}
use Rattle.mss_search.specs.Frugal.{Spot, In, Laid, on, IsOpen, Held, HasBound, IsRightlyTaken, Frugal}
use Rattle.mss_search.specs.Order.{node_at, order_of, walk}
use Rattle.mss_search.specs.Plan.{placed, Precedes, IsFrugal}
use Rattle.mss_search.specs.Standing.{IsBest, IsBestSoFar, Grown, IsEntry, spot_at}
use Rattle.mss_search.specs.Searching.{upper_of, IsSearchOf}
use Rattle.mss_search.specs.Promises.{board_of, IsIncumbent, HasOpen, Reaches, IsTight, IsPlanOf}
use Rattle.mss_search.proofs.Writing.{laid_reads}
use Rattle.mss_search.proofs.Closing.{reached, closes}
use Rattle.mss_search.specs.EndingLaws.{least_stands, lower_reaches}
use Rattle.mss_search.specs.PrefixesLaws.{in_either, under_short}
use Rattle.mss_search.proofs.Standing.{in_map, in_unmap, entry_in, open_entry}
use Rattle.mss_search.proofs.Tables.{laid_fits}
use Rattle.mss_search.proofs.Known.{IsKnown, laid_known}
use Rattle.mss_search.specs.UpperSidesLaws.{KindLaws, upper-above, upper-below, peak-rises, bound-tight}
use Rattle.mss_search.proofs.SoundTasks.{RuleLaws, sound}

-- ---- lists of spots and their lines

map_lines : (ns : List Node) (ps : List (List ℕ)) (xs : List ℕ) → map (λ k. (node_at ns k).line) xs ≡ map (λ (z : Spot). z.line) (map (spot_at ns ps) xs)
map_lines ns ps [] = refl
map_lines ns ps (x ∷ xs) = ap (λ z. (node_at ns x).line ∷ z) (map_lines ns ps xs)

laid_placed : (t : Task) (ps : List (List ℕ)) (ss : List Spot) → Laid t ps ss → placed t ps (map (λ (z : Spot). z.line) ss) ≡ ss
laid_placed t [] [] h = refl
laid_placed t [] (x ∷ ss) h = absurd h
laid_placed t (p ∷ ps) [] h = absurd h
laid_placed t (p ∷ ps) (x ∷ ss) h =
    ap (λ q. record { at = q; line = x.line } ∷ placed t (under t p x.line ++ ps) (map (λ (z : Spot). z.line) ss)) (sym h.0)
    ∙ ap (λ z. x ∷ z) (laid_placed t (under t p x.line ++ ps) ss h.2)

walk-long : (next : ℕ → ℕ) (k n : ℕ) → length (walk next k n) ≡ n
walk-long next k zero = refl
walk-long next k (suc n) = omega (arith, walk-long next (next k) n)

laid_short : (t : Task) (ps : List (List ℕ)) (ss : List Spot) → ((p : List ℕ) → In p ps → length p ≤ t.slots) → Laid t ps ss → (s : Spot) → In s ss → length s.at ≤ t.slots
laid_short t [] [] k h s i = absurd i
laid_short t [] (x ∷ ss) k h s i = absurd h
laid_short t (p ∷ ps) [] k h s i = absurd i
laid_short t (p ∷ ps) (x ∷ ss) k h s (inl e) = omega (arith, ap length (ap (λ (z : Spot). z.at) e ∙ h.0), k p (inl refl))
laid_short t (p ∷ ps) (x ∷ ss) k h s (inr i) =
    laid_short t (under t p x.line ++ ps) ss (λ q o. elim (in_either q (under t p x.line) ps o) [ inl l ↦ under_short t p x.line h.1 q l | inr r ↦ k q (inr r) ]) h.2 s i

number_bound : (l : Line) (b : FirstLargest) (n : ℕ) → HasBound l b → number_of l ≡ Some n → n ≡ b.number
number_bound (Branch turn) b n h e = cc
number_bound (Dead rule) b n h e = cc
number_bound (Full turn m w d) b n h e = let f : m ≡ n = cc in sym f ∙ h.0
number_bound (Closed turn m w d) b n h e = let f : m ≡ n = cc in sym f ∙ h.0
number_bound (OpenAt m w d) b n h e = let f : m ≡ n = cc in sym f ∙ h.0

rightly_zero : (H : ℕ → ℕ → Type 0) (n : ℕ) (l : Line) → IsRightlyTaken H n l → IsRightlyTaken H 0 l
rightly_zero H n (Branch turn) h = λ u k. omega (arith, h u k)
rightly_zero H n (Dead rule) h = tt
rightly_zero H n (Full turn m w d) h = λ u k. omega (arith, h u k)
rightly_zero H n (Closed turn m w d) h = h
rightly_zero H n (OpenAt m w d) h = tt

-- a tree with a number has a least one
least_some : (ls : List Line) (l : Line) (n : ℕ) → In l ls → number_of l ≡ Some n → (k : ℕ) × (least_number ls ≡ Some k)
least_some [] l n i e = absurd i
least_some (x ∷ ls) l n (inl z) e = first n (least_number ls) (ap number_of (sym z) ∙ e)
  where
    first : (n : ℕ) (o : Option ℕ) → number_of x ≡ Some n → (k : ℕ) × (lesser (number_of x) o ≡ Some k)
    first n None e = (n, ap (λ y. lesser y None) e)
    first n (Some m) e = (_, ap (λ y. lesser y (Some m)) e)
least_some (x ∷ ls) l n (inr i) e = let r = least_some ls l n i e in later (number_of x) r.0 r.1
  where
    later : (o : Option ℕ) (k : ℕ) → least_number ls ≡ Some k → (j : ℕ) × (lesser o (least_number ls) ≡ Some j)
    later None k e = (k, e)
    later (Some m) k e = (_, ap (lesser (Some m)) e)

incumbent_is : (t : Task) (upper : List ℕ → ℕ) (tree : List Line) (best : Option Best) → IsBestSoFar upper (board_of t tree) best
    → IsIncumbent t upper tree (option_map (λ b. b.cycle) best) (option_map (λ b. b.upper) best)
incumbent_is t upper tree None h = h
incumbent_is t upper tree (Some x) h = h

-- the best cycle, where there is one
the_best : (t : Task) (upper : List ℕ → ℕ) (tree : List Line) (b : Option (List ℕ)) (u : Option ℕ) (c : List ℕ) → IsIncumbent t upper tree b u → b ≡ Some c → (n : ℕ) × (u ≡ Some n) × IsBest upper (board_of t tree) c n
the_best t upper tree None u c h e = cc
the_best t upper tree (Some b) None c h e = absurd h
the_best t upper tree (Some b) (Some n) c h e = let f : b ≡ c = cc in let P : List ℕ → Type 0 = λ z. IsBest upper (board_of t tree) z n in (n, refl, subst P f h)

the_upper : (t : Task) (upper : List ℕ → ℕ) (tree : List Line) (b : Option (List ℕ)) (u : Option ℕ) (n : ℕ) → IsIncumbent t upper tree b u → u ≡ Some n → (c : List ℕ) × (b ≡ Some c) × IsBest upper (board_of t tree) c n
the_upper t upper tree b None n h e = cc
the_upper t upper tree None (Some m) n h e = absurd h
the_upper t upper tree (Some b) (Some m) n h e = let f : m ≡ n = cc in let P : ℕ → Type 0 = λ z. IsBest upper (board_of t tree) b z in (b, refl, subst P f h)

some_long : {A : Type 0} (x : A) (xs : List A) → In x xs → 0 < length xs
some_long x [] h = absurd h
some_long x (y ∷ ys) h = omega arith

module _ (rule : TableParts → List ℕ → Option ℕ) (Member : TableParts → List ℕ → Type 0) (joined : List ℕ → List ℕ → List ℕ) (S : List ℕ → List ℕ → Type 0) (low_of : List ℕ → ℕ → ℕ)
    (rules : RuleLaws rule Member) (laws : KindLaws joined S low_of) (t : TableParts) (good : IsTables t) (ns : List Node) (queue : List Waiting) (best : Option Best) (turns : ℕ)
    (s : IsSearchOf rule (floored_census joined) low_of t ns queue best turns) (p : Planned) (f : IsPlanOf t ns queue best turns p) where
  abbrev task : Task
  task = task_of rule (floored_census joined) low_of t

  abbrev spots : List Spot
  spots = map (spot_at ns s.prefixes) (order_of ns (length ns))

  grown : Grown (task_of rule (floored_census joined) low_of t) (bound_of (floored_census joined) low_of t) (upper_of t) (map (spot_at ns s.prefixes) (order_of ns (length ns))) best turns
  grown = s.stands.tree

  tree_lines : p.certificate.tree ≡ map (λ (z : Spot). z.line) (map (spot_at ns s.prefixes) (order_of ns (length ns)))
  tree_lines = f.tree ∙ map_lines ns s.prefixes (order_of ns (length ns))

  placed_is : placed (task_of rule (floored_census joined) low_of t) ([] ∷ []) p.certificate.tree ≡ map (spot_at ns s.prefixes) (order_of ns (length ns))
  placed_is = ap (placed task ([] ∷ [])) tree_lines ∙ laid_placed task ([] ∷ []) spots grown.laid

  on_spots : (q : List ℕ) (l : Line) → board_of (task_of rule (floored_census joined) low_of t) p.certificate.tree q l → on (map (spot_at ns s.prefixes) (order_of ns (length ns))) q l
  on_spots q l h = let P : List Spot → Type 0 = λ z. on z q l in subst P placed_is h

  on_board : (q : List ℕ) (l : Line) → on (map (spot_at ns s.prefixes) (order_of ns (length ns))) q l → board_of (task_of rule (floored_census joined) low_of t) p.certificate.tree q l
  on_board q l h = let P : List Spot → Type 0 = λ z. on z q l in subst P (sym placed_is) h

  reads : Reads (task_of rule (floored_census joined) low_of t) ([] ∷ []) p.certificate.tree
  reads = let P : List Line → Type 0 = λ z. Reads task ([] ∷ []) z in subst P (sym tree_lines) (laid_reads task ([] ∷ []) spots grown.laid)

  pub valid : IsValidFor (task_of rule (floored_census joined) low_of t) t p.certificate
  valid = record { header = f.header; tree = read_valid task p.certificate.tree reads; last = f.last }

  -- each turn gives the tree at most a line for each option
  pub few : length p.certificate.tree ≤ 1 + option_count t * p.turns
  few =
      let Q : ℕ → Type 0 = λ n. length p.certificate.tree ≤ 1 + option_count t * n in
      let lines : length p.certificate.tree ≡ length ns = ap length f.tree ∙ length-map (order_of ns (length ns)) (λ k. (node_at ns k).line) ∙ walk-long (λ k. (node_at ns k).next) 0 (length ns) in
      let within : length ns ≤ 1 + option_count t * turns = s.few in
      subst Q (sym f.turns_are) (omega (arith, lines, within))

  -- an open line has an entry in the queue
  open_queue : (q : List ℕ) (n w d : ℕ) → on (map (spot_at ns s.prefixes) (order_of ns (length ns))) q (OpenAt n w d) → 0 < length queue
  open_queue q n w d h =
      let r = in_unmap (spot_at ns s.prefixes) (record { at = q; line = OpenAt n w d }) (order_of ns (length ns)) h in
      let O : Line → Type 0 = λ z. IsOpen z in
      let e = open_entry (spot_at ns s.prefixes) (order_of ns (length ns)) queue s.stands.all r.0 r.1 (subst O (ap (λ (z : Spot). z.line) r.2) tt) in
      some_long e.0 queue e.1

  pub frugal : turns ≤ t.budget → (0 < length queue → turns ≡ t.budget) → IsFrugal (task_of rule (floored_census joined) low_of t) (bound_of (floored_census joined) low_of t) (upper_of t) t.budget p.certificate.tree p.turns
  frugal within spent = record {
    each_turn = (let P : List Spot → Type 0 = λ z. Frugal task (bound_of (floored_census joined) low_of t) (upper_of t) (Precedes task (bound_of (floored_census joined) low_of t)) (on z) p.turns in
        let Q : ℕ → Type 0 = λ n. Frugal task (bound_of (floored_census joined) low_of t) (upper_of t) (Precedes task (bound_of (floored_census joined) low_of t)) (on spots) n in
        subst P (sym placed_is) (subst Q (sym f.turns_are) grown.frugal));
    within = omega (arith, f.turns_are);
    spent = λ q n w d h. f.turns_are ∙ spent (open_queue q n w d (on_spots q (OpenAt n w d) h));
  }

  pub incumbent : IsIncumbent (task_of rule (floored_census joined) low_of t) (upper_of t) p.certificate.tree p.best p.upper
  incumbent =
      let P : List Spot → Type 0 = λ z. IsBestSoFar (upper_of t) (on z) best in
      let Q : Option (List ℕ) → Option ℕ → Type 0 = λ b u. IsIncumbent task (upper_of t) p.certificate.tree b u in
      subst (λ b. Q b p.upper) (sym f.cycle) (subst (Q (option_map (λ b. b.cycle) best)) (sym f.number) (incumbent_is task (upper_of t) p.certificate.tree best (subst P (sym placed_is) grown.incumbent)))

  pub spent_is : IsTrue p.spent ↔ HasOpen (task_of rule (floored_census joined) low_of t) p.certificate.tree
  spent_is = ((λ h. first_entry (f.spent_is.0 h)), (λ h. f.spent_is.1 (open_queue h.0 h.1 h.2 h.3 (on_spots h.0 (OpenAt h.1 h.2 h.3) h.4))))
    where
      at_node : (w : Waiting) → In w.node (order_of ns (length ns)) → IsEntry (task_of rule (floored_census joined) low_of t) (spot_at ns s.prefixes w.node) w → HasOpen (task_of rule (floored_census joined) low_of t) p.certificate.tree
      at_node w i e =
          let P : Line → Type 0 = λ l. on spots (spot_at ns s.prefixes w.node).at l in
          ((spot_at ns s.prefixes w.node).at, w.number, w.ward, w.day, on_board (spot_at ns s.prefixes w.node).at (OpenAt w.number w.ward w.day) (subst P e.line (in_map (spot_at ns s.prefixes) w.node (order_of ns (length ns)) i)))

      first_entry : 0 < length queue → HasOpen (task_of rule (floored_census joined) low_of t) p.certificate.tree
      first_entry h = first_of queue refl h
        where
          first_of : (ws : List Waiting) → queue ≡ ws → 0 < length ws → HasOpen (task_of rule (floored_census joined) low_of t) p.certificate.tree
          first_of [] e l = absurd (omega arith)
          first_of (w ∷ ws) e l =
              let same : get_or queue 0 w ≡ w = ap (λ z. get_or z 0 w) e in
              let some : 0 < length queue = h in
              let P : Waiting → Type 0 = λ x. In x.node (order_of ns (length ns)) in
              let Q : Waiting → Type 0 = λ x. IsEntry (task_of rule (floored_census joined) low_of t) (spot_at ns s.prefixes x.node) x in
              at_node w (subst P same (entry_in (spot_at ns s.prefixes) (order_of ns (length ns)) queue s.stands.all 0 w some)) (subst Q same (s.stands.entries 0 w some))

  pub closed_off : p.spent ≡ false → (q : List ℕ) (n w d : ℕ) → on (map (spot_at ns s.prefixes) (order_of ns (length ns))) q (OpenAt n w d) → ⊥
  closed_off e q n w d h = let k : IsTrue p.spent = f.spent_is.1 (open_queue q n w d h) in cc

  full_known : (c : List ℕ) (s1 n w d : ℕ) → board_of (task_of rule (floored_census joined) low_of t) p.certificate.tree c (Full s1 n w d) → Member t c
  full_known c s1 n w d h =
      let i = on_spots c (Full s1 n w d) h in
      let x : Spot = record { at = c; line = Full s1 n w d } in
      let fits : Fits task c (Full s1 n w d) = laid_fits task ([] ∷ []) spots x grown.laid i in
      let K : List ℕ → Type 0 = λ z. IsKnown (option_count t) z in
      rules.full t c fits.0 (laid_known task ([] ∷ []) spots (λ q o. elim o [ inl e ↦ subst K (sym e) (All-nil (λ x. x < option_count t)) | inr z ↦ absurd z ]) grown.laid x i) fits.1

  pub member : (c : List ℕ) → p.best ≡ Some c → Member t c
  member c e = let r = the_best task (upper_of t) p.certificate.tree p.best p.upper c incumbent e in let b = r.2 in full_known c b.turn b.number b.ward b.day b.there

  pub peaks : (c : List ℕ) (n : ℕ) → p.best ≡ Some c → p.upper ≡ Some n → peak_at t c t.level ≤ n
  peaks c n e k =
      let r = the_best task (upper_of t) p.certificate.tree p.best p.upper c incumbent e in
      let same : r.0 ≡ n = (let z : Some r.0 ≡ Some n = sym r.1 ∙ k in cc) in
      let few : length c ≤ slot_count t = (let w = (rules.legal t c (member c e)).whole in omega arith) in
      omega (arith, same, r.2.reached, upper-above t c good few)

  the_sound : Sound (task_of rule (floored_census joined) low_of t) (Member t) (λ m. peak_at t m t.level)
  the_sound = sound rule Member joined S low_of rules laws t good

  pub lower : (n : ℕ) → p.certificate.end ≡ Lower n → (c : List ℕ) → Member t c → n ≤ peak_at t c t.level
  lower n e c w =
      let b : Bounded p.certificate.tree (peak_at t c t.level) = bounded task (Member t) (λ m. peak_at t m t.level) the_sound ([] ∷ []) p.certificate.tree c reads (inl (c, refl)) w in
      let is : Lower n ≡ Lower b.number = sym e ∙ (f.last ∙ ap end_of b.least) in
      let same : n ≡ b.number = cc in omega (arith, b.at_most)

  pub none : p.certificate.end ≡ NoneLegal → (c : List ℕ) → Member t c → ⊥
  none e c w =
      let b : Bounded p.certificate.tree (peak_at t c t.level) = bounded task (Member t) (λ m. peak_at t m t.level) the_sound ([] ∷ []) p.certificate.tree c reads (inl (c, refl)) w in
      let is : NoneLegal ≡ Lower b.number = sym e ∙ (f.last ∙ ap end_of b.least) in cc

  right_zero : (q : List ℕ) (l : Line) → on (map (spot_at ns s.prefixes) (order_of ns (length ns))) q l → IsRightlyTaken (Held (upper_of t) (on (map (spot_at ns s.prefixes) (order_of ns (length ns))))) 0 l
  right_zero q l h = rightly_zero (Held (upper_of t) (on spots)) (bound_of (floored_census joined) low_of t q).number l (grown.frugal.rightly q l h)

  pub closing : p.spent ≡ false → (n : ℕ) → p.upper ≡ Some n → (c : List ℕ) → Member t c → n ≤ peak_above t c t.level
  closing e n k c w =
      let r = the_upper task (upper_of t) p.certificate.tree p.best p.upper n incumbent k in
      closes task (Member t) (λ m. peak_at t m t.level) (λ m. peak_above t m t.level) (upper_of t) n the_sound spots c
      (reached task (Member t) (λ m. peak_at t m t.level) the_sound ([] ∷ []) spots c grown.laid (inl (c, refl)) w) w
      (closed_off e) right_zero
      (λ q s1 m v d h. r.2.least q s1 m v d (on_board q (Full s1 m v d) h))
      (λ q z. upper-below t q good (let y = (rules.legal t q z).whole in let x : length q ≤ slot_count t = omega arith in x))
      (λ q. peak-rises t q)

  pub reaching : p.spent ≡ false → (n : ℕ) → p.upper ≡ Some n → Reaches p.certificate n
  reaching e n k =
      let r = the_upper task (upper_of t) p.certificate.tree p.best p.upper n incumbent k in
      let b = r.2 in
      let in_tree : (q : List ℕ) (l : Line) → on spots q l → In l p.certificate.tree
      = λ q l h. (let P : List Line → Type 0 = λ z. In l z in subst P (sym tree_lines) (in_map (λ (z : Spot). z.line) (record { at = q; line = l }) spots h)) in
      let full_there = on_spots r.0 (Full b.turn b.number b.ward b.day) b.there in
      let least = least_some p.certificate.tree (Full b.turn b.number b.ward b.day) b.number (in_tree r.0 (Full b.turn b.number b.ward b.day) full_there) refl in
      let stands = least_stands p.certificate.tree least.0 least.1 in
      let P : List Line → Type 0 = λ z. In stands.0 z in
      let at_spot = in_unmap (λ (z : Spot). z.line) stands.0 spots (subst P tree_lines stands.1) in
      let x : Spot = at_spot.0 in
      let same : number_of x.line ≡ Some least.0 = ap number_of (sym at_spot.2) ∙ stands.2 in
      let side = lower_reaches (upper_of t) (on spots) n least.0 x.at x.line at_spot.1 same (closed_off e) right_zero (λ q s1 m v d h. b.least q s1 m v d (on_board q (Full s1 m v d) h)) in
      record {
        lower = least.0;
        there = f.last ∙ ap end_of least.1;
        enough = elim side [ inl h ↦ inl h | inr h ↦ inr (h.0, h.1, h.2, (let Q : Line → Type 0 = λ z. In z p.certificate.tree in subst Q h.3 (in_tree x.at x.line at_spot.1))) ];
      }

  pub tight : IsTight (task_of rule (floored_census joined) low_of t) p.certificate.tree (λ q. peak_below t q t.level)
  tight q l n h e =
      let i = on_spots q l h in
      let few : length q ≤ slot_count t = laid_short task ([] ∷ []) spots (λ z o. elim o [ inl y ↦ omega (arith, ap length y) | inr y ↦ absurd y ]) grown.laid (record { at = q; line = l }) i in
      omega (arith, number_bound l (bound_of (floored_census joined) low_of t q) n (grown.frugal.bounds q l i) e, bound-tight joined S low_of laws t q good few)
