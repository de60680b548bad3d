-- The walk of a check with a workspace: a table is made in the room, lent to the check, and given up.
use Rattle.c_interface.proofs.Lending.{ℕ, [], ◌∷◌, length, refl, w32, MutBor, proved, full_share, id⊢, ftrue, flft, flent, froom, named, vptr, WpFn, fact, tables, ‵, raw, ◌⊛◌, some, later, prop, ◌$◌, ◌∵◌, !, qed, done, move, drop, use1, use2, use3, split, join, fsplit, pick, await, regoal, suffices, frame, group, enter, of_opd, addr, init, stop, no_more, and_then, assigns, returns, alloc_all, pass_all, free_all, look_at, get, through, sets, lands_as, Body, lft_new, lft_end, u8, u32, u64, yes, Is, shows, lends_ref, mem, part_at, uint_Lawful, Ptr, RawPtr, block_ptr, ptr_val, room_at, in_a_block, rawptr_vals, rawptr_Tells, MutRef, mut_vals, mut_Tells, plain, shr_slice_of, ShrSlice, slice_val, shr_slice_vals, shr_slice_Tells, nothing, heard, peeks, calls_at, ensured, lasts, triple_of, framed, Stays, says, walk_of, ends_at, stay_dropped, gave_ref, Goes-dropped, Goes-gave_ref, part_in, table, table_laws, workspace, τ, ω, Back, opened, closed}
use Rattle.reports.specs.contracts.table.TableDefault.default as default
use Rattle.reports.proofs.table.TableDefault.default.Met as default_thm
use Rattle.c_interface.specs.Choosing.{AnswersCheck}
use Rattle.c_interface.specs.contracts.choosing.bootswap_check_in as f
use Rattle.c_interface.proofs.choosing.bootswap_check_in.Statement.{statement}
use Rattle.c_interface.proofs.choosing.bootswap_check_in.Code as code
use Rattle.c_interface.specs.contracts.choosing.check_at as g
use Rattle.c_interface.proofs.choosing.check_at.Met as g_thm

-- The check keeps the number of the line.
abbrev stayed : Stays f.ended.signature.params f.ended.kept
stayed = (stay_dropped _ yes, (stay_dropped _ yes, (stay_dropped _ yes, (gave_ref (2 ∷ []) tt (plain (λ _. u64)), tt))))

pub bootswap_check_in_spec : {M : Type 1} → statement M
bootswap_check_in_spec 𝓤 𝓛 𝓜 𝓡 wired =
    let c = f.clauses 𝓛 𝓜.mem 𝓡.returns in let W = walk_of 𝓛 f.ended stayed c in let 𝓣 = tables 𝓤 𝓛.H 𝓜 𝓡 𝓡.env in
    proved 𝓛 f.ended stayed c 𝓜 𝓡 (
      Goes-dropped 𝓛 3 (plain (λ _. RawPtr)) yes (λ κs x w. refl),
      (
        Goes-dropped 𝓛 3 (shr_slice_of (0 ∷ []) tt (plain (λ _. u8))) yes (λ κs x w. refl),
        (Goes-dropped 𝓛 3 (shr_slice_of (1 ∷ []) tt (plain (λ _. u8))) yes (λ κs x w. refl), (Goes-gave_ref 𝓛 3 2 tt (plain (λ _. u64)), tt)),
      ),
    )
    f.Key.name code.function (code.unfolded 𝓤 𝓛.H 𝓜 𝓡 wired)
    (λ κs. (rawptr_vals, (shr_slice_vals, (shr_slice_vals, (mut_vals, tt)))))
    (λ κs. (rawptr_Tells, (shr_slice_Tells (named 0) κs.0 u8, (shr_slice_Tells (named 1) κs.1.0 u8, (mut_Tells (named 2) κs.1.1.0 u64, tt)))))
    (λ κs qs bounds a _ are.
    let p = a.0 in let rows = a.1.0 in let lines = a.1.1.0 in let out = a.1.1.1.0 in
    let κ₀ = κs.0 in let κ₁ = κs.1.0 in let κ₂ = κs.1.1.0 in let q₀ = qs.0 in let q₁ = qs.1.0 in let q₂ = qs.1.1.0 in
    let y : Ptr → W.Ghost = λ s. ((κs, qs, bounds, (s, a.1), (rawptr_vals s, (shr_slice_vals rows, (shr_slice_vals lines, (mut_vals out, tt))))), tt) in
    let Rows = (ShrSlice (named 0) κ₀ u8).own_val rows (shr_slice_vals rows) in
    let Lines = (ShrSlice (named 1) κ₁ u8).own_val lines (shr_slice_vals lines) in
    let Out = (MutRef (named 2) κ₂ u64).own_val out (mut_vals out) in
    qed 𝓛 (((‵ (flft κ₀ q₀) ⊛ ‵ (flft κ₁ q₁) ⊛ ‵ (flft κ₂ q₂) ⊛ ‵ ftrue) ⊛ ‵ (RawPtr.own_val p (rawptr_vals p)) ⊛ ‵ Rows ⊛ ‵ Lines ⊛ ‵ Out ⊛ ‵ ftrue) ∷ ‵ (room_at workspace p) ∷ []) ∵
    split ! $ move ! (1 ∷ []) $ split ! $ drop ! $ split ! $ move ! (1 ∷ []) $ split ! $ move ! (1 ∷ []) $ split ! $ move ! (1 ∷ []) $ drop ! $ move ! (3 ∷ []) $
    split ! $ move ! (1 ∷ []) $ split ! $ move ! (1 ∷ []) $ split ! $ move ! (1 ∷ []) $ drop ! $
    -- [the tokens of κ₂, κ₁ and κ₀; the line; the lines; the rows; the room]
    move ! (6 ∷ []) $ in_a_block ! p (λ s. room_at workspace s) (id⊢ 𝓤 _) (λ b o at.
    regoal ! (λ s. prop (WpFn 𝓤 𝓛.H 𝓣.C 𝓣.Λ code.function (ptr_val s ∷ slice_val rows.ref_ptr (length rows.now) ∷ slice_val lines.ref_ptr (length lines.now) ∷ vptr out.ref_ptr.0 out.ref_ptr.1 ∷ []) (W.post (y s)))) at refl $
    use1 𝓛 (‵ (froom τ b o) ⊛ raw (Back 𝓛 b o)) (opened 𝓛 b o) $ split ! $
    enter ! _ _ _ _ _ $ alloc_all ! (λ l. pass_all ! refl ((tt, tt), ((tt, (tt, (record { fits = are.1.0.0.1.0 }, tt))), ((tt, (tt, (record { fits = are.1.1.0.0.1.0 }, tt))), ((tt, tt), tt)))) $
    -- let place = workspace as *mut Table;
    sets ! (of_opd ! (get ! refl)) refl (tt, tt) $
    -- Table::default()
    let D = triple_of 𝓛 default.signature (default.spec 𝓛 𝓜.mem 𝓡.returns) in
    let z : D.Ghost = ((tt, tt, tt, tt, tt), tt) in
    nothing ! $ nothing ! $ join ! $ nothing ! $ move ! (1 ∷ 0 ∷ []) $ use2 𝓛 (raw (D.pre z)) (id⊢ 𝓤 _) $
    calls_at ! (framed 𝓤 𝓛.H 𝓜 𝓣) D (default_thm.met 𝓤 𝓛 𝓜 𝓡 (code.calls-reports::table::TableDefault::default 𝓡.env wired)) z (no_more !) (λ v.
    use1 𝓛 (later (some (λ (t : table.Denot). (‵ ftrue ⊛ ‵ (table.own_val t (v ∷ []))) ⊛ raw (ensured 𝓛 default.ended (default.clauses 𝓛 𝓜.mem 𝓡.returns) tt tt tt t)))) (id⊢ 𝓤 _) $
    await ! tt $ pick ! (λ t. split ! $ split ! $ drop ! $ move ! (1 ∷ []) $ drop ! $
    peeks ! table (Is table) (shows 𝓛 table) t (v ∷ []) (λ is. let good = ((table_laws.lawful 𝓛).typed t (v ∷ []) is).0 in
    lands_as ! refl refl good $
    -- place.write(..)
    assigns ! (of_opd ! (get ! refl)) (through ! refl (stop !)) (init ! 1 refl good) $
    move ! (1 ∷ 0 ∷ []) $ use2 𝓛 (‵ (part_at table full_share t b o)) (part_in 𝓛 table refl full_share t b o v) $
    -- &mut *place
    lft_new ! tt (λ α. let κ = α ∷ [] in
    let Lent : ℕ → table.Denot → MutBor table.Denot = λ δ x. record { ref_ptr = (b, o); ghost_name = δ; now = x } in
    move ! (1 ∷ []) $ use1 𝓛 (later (some (λ (δ : ℕ). ‵ ((MutRef (named 0) κ table).own_val (Lent δ t) (vptr b o ∷ [])) ⊛ ‵ (flent κ (Body (mem table) b o δ))))) (lends_ref 𝓛 table (named 0) κ t b o) $
    await ! tt $ pick ! (λ δ. split ! $
    -- [the loan; the lender's part; the token of κ; the way back; the tokens of κ₂, κ₁ and κ₀; the line; the lines; the rows]
    sets ! (addr ! (through ! refl (stop !))) refl (tt, tt) $
    sets ! (addr ! (through ! refl (stop !))) refl (tt, tt) $
    -- check_at(..)
    let G = triple_of 𝓛 g.signature (g.spec 𝓛 𝓜.mem 𝓡.returns) in
    let x : G.Ghost = (((κ, (κ₀, (κ₁, (κ₂, tt)))), (full_share, (q₀, (q₁, (q₂, tt)))), tt, (Lent δ t, (rows, (lines, (out, tt)))), (vptr b o ∷ [], (shr_slice_vals rows, (shr_slice_vals lines, (mut_vals out, tt))))), tt) in
    nothing ! $ move ! (1 ∷ 10 ∷ 9 ∷ 8 ∷ 0 ∷ []) $ group ! 5 $ nothing ! $ move ! (3 ∷ 7 ∷ 6 ∷ 5 ∷ 0 ∷ []) $ group ! 5 $ join ! $ nothing ! $ move ! (1 ∷ 0 ∷ []) $
    use2 𝓛 (raw (G.pre x)) (id⊢ 𝓤 _) $
    calls_at ! (framed 𝓤 𝓛.H 𝓜 𝓣) G (g_thm.met 𝓤 𝓛 𝓜 𝓡 (code.calls-c_interface::choosing::check_at 𝓡.env wired)) x (and_then ! (get ! refl) (and_then ! (get ! refl) (and_then ! (get ! refl) (and_then ! (get ! refl) (no_more !))))) (λ u.
    use1 𝓛 (later (some (λ (r : ℕ). ((‵ (flft κ full_share) ⊛ ‵ (flft κ₀ q₀) ⊛ ‵ (flft κ₁ q₁) ⊛ ‵ (flft κ₂ q₂) ⊛ ‵ ftrue) ⊛ ‵ (u32.own_val r (u ∷ []))) ⊛
    some (λ (ws : table.Denot × (Unit {0} × (Unit {0} × (ℕ × Unit {0})))). ‵ (lasts g.ended x.0.0 x.0.3 ws) ⊛ raw (fact 𝓤 (AnswersCheck rows.now lines.now ws.1.1.1.0 r)))))) (id⊢ 𝓤 _) $
    await ! tt $ pick ! (λ r. split ! $ split ! $ split ! $ lft_end ! tt $
    -- The loan has ended.
    move ! (0 ∷ 4 ∷ 5 ∷ []) $ use3 𝓛 (later (‵ (froom ω b o))) (closed 𝓛 b o κ δ) $ await ! tt $
    -- [the room; the tokens; the result; what the check says]
    move ! (3 ∷ []) $ pick ! (λ ws. split ! $ move ! (1 ∷ []) $ heard ! _ (λ answers.
    fsplit ! $ drop ! $ fsplit ! $ drop ! $ fsplit ! $ drop ! $ fsplit ! $ move ! (1 ∷ []) $ drop ! $
    move ! (3 ∷ []) $ peeks ! u32 (Is u32) (shows 𝓛 u32) r (u ∷ []) (λ number. lands_as ! refl refl ((uint_Lawful 𝓛 w32).typed r _ number).0 $
    returns ! (look_at ! 0 refl) $ free_all ! refl $
    -- [the result; the line; the room; the tokens]
    suffices ! _ (ends_at 𝓛 f.ended stayed c (y (block_ptr b o)) u r (tt, (tt, (tt, (ws.1.1.1.0, tt)))) (tt, (tt, (tt, (tt, tt))))) $
    nothing ! $ nothing ! $ nothing ! $ nothing ! $ move ! (0 ∷ 1 ∷ 2 ∷ 5 ∷ 3 ∷ []) $ group ! 5 $
    move ! (3 ∷ 0 ∷ 1 ∷ []) $ group ! 3 $ frame ! $ says ! answers $ done !)))))))))))))
