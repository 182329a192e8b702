-- Each line of the run is a move between two of its worlds.
use Rattle.std.proofs.Common.{List, [], ◌∷◌, ◌++◌, codes, Some, None, Ok, refl, ap, lit≤}
use Rattle.chaos_file.specs.Store.{Files}
use Rattle.file_client.specs.Talk.{Step}
use Rattle.file_server.specs.Sessions.{new_serving}
use Rattle.file_end_to_end.specs.FileGot.{pace}
use Rattle.file_end_to_end.specs.TwoClients.{contents, count, may_give}
use Rattle.file_end_to_end.specs.World.{EngineSteps, Moves, ServerTurns}
use Rattle.file_end_to_end.proofs.Going.{IsSmall, small_at}
use Rattle.file_end_to_end.proofs.Moving.{engine_reads, engine_turns, engine_writes, server_moves}
use Rattle.file_end_to_end.proofs.OneSlot.{turns_so}
use Rattle.file_end_to_end.proofs.Spelled.{close_answered, login_answered, more_answered, open_answered, read_answered, write_closed, write_opened, wrote}
use Rattle.file_end_to_end.proofs.States.{bytes_text, close_text, closed_text, end_text, engine_0, engine_1, engine_10, engine_11, engine_12, engine_13, engine_14, engine_15, engine_16, engine_17, engine_18, engine_19, engine_2, engine_20, engine_21, engine_22, engine_23, engine_24, engine_25, engine_26, engine_27, engine_28, engine_29, engine_3, engine_30, engine_31, engine_32, engine_4, engine_5, engine_6, engine_7, engine_8, engine_9, login_text, more_text, open_text, opened_text, read_session, read_text, reply_0, reply_0_read, reply_1, reply_1_read, reply_2, reply_2_read, reply_3, reply_3_read, reply_4, reply_4_read, reply_5, reply_5_read, reply_6, reply_6_read, reply_7, reply_7_read, reply_8, reply_8_read, reply_9, reply_9_read, sent_0, sent_0_read, sent_1, sent_10, sent_10_read, sent_11, sent_11_read, sent_1_read, sent_2, sent_2_read, sent_3, sent_3_read, sent_4, sent_4_read, sent_5, sent_5_read, sent_6, sent_6_read, sent_7, sent_7_read, sent_8, sent_8_read, sent_9, sent_9_read, served_0, served_1, served_2, served_3, served_4, served_5, served_6, served_7, server_0, server_1, server_10, server_11, server_12, server_13, server_14, server_15, server_16, server_17, server_18, server_2, server_3, server_4, server_5, server_6, server_7, server_8, server_9, step_0, step_10, step_12, step_13, step_16, step_17, step_18, step_19, step_2, step_20, step_21, step_23, step_24, step_25, step_26, step_28, step_29, step_3, step_30, step_31, step_32, step_33, step_38, step_39, step_4, step_40, step_41, step_42, step_43, step_5, step_6, step_9, stored, user_session, world_0, world_1, world_10, world_11, world_12, world_13, world_14, world_15, world_16, world_17, world_18, world_19, world_2, world_20, world_21, world_22, world_23, world_24, world_25, world_26, world_27, world_28, world_29, world_3, world_30, world_31, world_32, world_33, world_34, world_35, world_36, world_37, world_38, world_39, world_4, world_40, world_41, world_42, world_43, world_44, world_5, world_6, world_7, world_8, world_9, write_close_text, write_closed_text, write_open_text, write_opened_text, write_session, write_text, wrote_text}

pub moves_0 : (m : Files) (steps : List Step)
    → Moves contents may_give count pace (world_0 m steps) (EngineSteps step_0 None) (world_1 m (step_0 ∷ steps))
moves_0 m steps =
    engine_turns m engine_0 engine_1 (sent_0 ∷ []) ([]) (sent_0 ∷ []) server_0 new_serving ([]) steps 2 None None ([]) (2000000, tt, refl) refl refl refl (sent_0_read, tt) refl

pub small_0 : (m : Files) (steps : List Step) → IsSmall (world_1 m (step_0 ∷ steps))
small_0 m steps = small_at m engine_1 ([]) (sent_0 ∷ []) server_0 new_serving ([]) (step_0 ∷ steps) (sent_0_read, tt) tt (lit≤ tt) (lit≤ tt)

pub moves_1 : (m : Files) (steps : List Step)
    → Moves contents may_give count pace (world_1 m steps) (ServerTurns (Some 0) 300 3) (world_2 m steps)
moves_1 m steps =
    server_moves m m engine_1 ([]) (sent_0 ∷ []) server_0 server_1 new_serving served_0 ([]) (reply_0 ∷ []) steps (Some 0) 300 3 (Some (Ok (sent_0 ∷ []))) (([] ∷ (reply_0 ∷ []) ∷ []) ++ (([] ∷ []) ++ (([] ++ ([] ∷ [])) ++ []))) (ap Some sent_0_read) (turns_so m m (Some (Ok (sent_0 ∷ []))) 300 3 server_0 server_1 server_1 server_1 new_serving served_0 1 ([] ∷ (reply_0 ∷ []) ∷ []) ([] ∷ []) [] ([] ∷ []) [] refl (served_0.session, ((refl, refl), record { host = refl; sessions = refl; out = refl })) refl refl refl refl) (reply_0_read, tt) refl

pub small_1 : (m : Files) (steps : List Step) → IsSmall (world_2 m steps)
small_1 m steps = small_at m engine_1 ([]) (sent_0 ∷ []) server_1 served_0 (reply_0 ∷ []) steps (sent_0_read, tt) (reply_0_read, tt) (lit≤ tt) (lit≤ tt)

pub moves_2 : (m : Files) (steps : List Step)
    → Moves contents may_give count pace (world_2 m steps) (EngineSteps step_2 (Some 0)) (world_3 m (step_2 ∷ steps))
moves_2 m steps =
    engine_turns m engine_1 engine_2 ([]) (sent_0 ∷ []) (sent_0 ∷ sent_1 ∷ []) server_1 served_0 (reply_0 ∷ []) steps 4 (Some 0) (Some (Ok (reply_0 ∷ []))) ((sent_1 ∷ []) ∷ []) (4000000, tt, refl) refl (ap Some reply_0_read) refl (sent_1_read, tt) refl

pub small_2 : (m : Files) (steps : List Step) → IsSmall (world_3 m (step_2 ∷ steps))
small_2 m steps = small_at m engine_2 ([]) (sent_0 ∷ sent_1 ∷ []) server_1 served_0 (reply_0 ∷ []) (step_2 ∷ steps) (sent_0_read, (sent_1_read, tt)) (reply_0_read, tt) (lit≤ tt) (lit≤ tt)

pub moves_3 : (m : Files) (steps : List Step)
    → Moves contents may_give count pace (world_3 m steps) (EngineSteps step_3 None) (world_4 m (step_3 ∷ steps))
moves_3 m steps =
    engine_writes m engine_2 engine_3 ([]) (sent_2 ∷ []) (sent_2 ∷ []) (sent_0 ∷ sent_1 ∷ []) server_1 served_0 (reply_0 ∷ []) steps login_text 5 101 (5000000, tt, refl) refl refl

pub small_3 : (m : Files) (steps : List Step) → IsSmall (world_4 m (step_3 ∷ steps))
small_3 m steps = small_at m engine_3 (sent_2 ∷ []) (sent_0 ∷ sent_1 ∷ []) server_1 served_0 (reply_0 ∷ []) (step_3 ∷ steps) (sent_0_read, (sent_1_read, tt)) (reply_0_read, tt) (lit≤ tt) (lit≤ tt)

pub moves_4 : (m : Files) (steps : List Step)
    → Moves contents may_give count pace (world_4 m steps) (EngineSteps step_4 None) (world_5 m (step_4 ∷ steps))
moves_4 m steps =
    engine_writes m engine_3 engine_4 (sent_2 ∷ []) (sent_2 ∷ sent_3 ∷ []) (sent_3 ∷ []) (sent_0 ∷ sent_1 ∷ []) server_1 served_0 (reply_0 ∷ []) steps write_open_text 5 102 (5000000, tt, refl) refl refl

pub small_4 : (m : Files) (steps : List Step) → IsSmall (world_5 m (step_4 ∷ steps))
small_4 m steps = small_at m engine_4 (sent_2 ∷ sent_3 ∷ []) (sent_0 ∷ sent_1 ∷ []) server_1 served_0 (reply_0 ∷ []) (step_4 ∷ steps) (sent_0_read, (sent_1_read, tt)) (reply_0_read, tt) (lit≤ tt) (lit≤ tt)

pub moves_5 : (m : Files) (steps : List Step)
    → Moves contents may_give count pace (world_5 m steps) (EngineSteps step_5 None) (world_6 m (step_5 ∷ steps))
moves_5 m steps =
    engine_writes m engine_4 engine_5 (sent_2 ∷ sent_3 ∷ []) (sent_2 ∷ sent_3 ∷ sent_4 ∷ []) (sent_4 ∷ []) (sent_0 ∷ sent_1 ∷ []) server_1 served_0 (reply_0 ∷ []) steps write_text 5 103 (5000000, tt, refl) refl refl

pub small_5 : (m : Files) (steps : List Step) → IsSmall (world_6 m (step_5 ∷ steps))
small_5 m steps = small_at m engine_5 (sent_2 ∷ sent_3 ∷ sent_4 ∷ []) (sent_0 ∷ sent_1 ∷ []) server_1 served_0 (reply_0 ∷ []) (step_5 ∷ steps) (sent_0_read, (sent_1_read, tt)) (reply_0_read, tt) (lit≤ tt) (lit≤ tt)

pub moves_6 : (m : Files) (steps : List Step)
    → Moves contents may_give count pace (world_6 m steps) (EngineSteps step_6 None) (world_7 m (step_6 ∷ steps))
moves_6 m steps =
    engine_turns m engine_5 engine_6 (sent_2 ∷ sent_3 ∷ sent_4 ∷ []) (sent_0 ∷ sent_1 ∷ []) (sent_0 ∷ sent_1 ∷ sent_2 ∷ sent_3 ∷ sent_4 ∷ []) server_1 served_0 (reply_0 ∷ []) steps 6 None None ([]) (6000000, tt, refl) refl refl refl (sent_2_read, (sent_3_read, (sent_4_read, tt))) refl

pub small_6 : (m : Files) (steps : List Step) → IsSmall (world_7 m (step_6 ∷ steps))
small_6 m steps = small_at m engine_6 ([]) (sent_0 ∷ sent_1 ∷ sent_2 ∷ sent_3 ∷ sent_4 ∷ []) server_1 served_0 (reply_0 ∷ []) (step_6 ∷ steps) (sent_0_read, (sent_1_read, (sent_2_read, (sent_3_read, (sent_4_read, tt))))) (reply_0_read, tt) (lit≤ tt) (lit≤ tt)

pub moves_7 : (m : Files) (steps : List Step)
    → Moves contents may_give count pace (world_7 m steps) (ServerTurns (Some 2) 0 7) (world_8 m steps)
moves_7 m steps =
    server_moves m m engine_6 ([]) (sent_0 ∷ sent_1 ∷ sent_2 ∷ sent_3 ∷ sent_4 ∷ []) server_1 server_3 served_0 served_1 (reply_0 ∷ []) (reply_0 ∷ reply_1 ∷ []) steps (Some 2) 0 7 (Some (Ok (sent_2 ∷ []))) (([] ∷ []) ++ (((reply_1 ∷ []) ∷ []) ++ (([] ++ ([] ∷ [])) ++ []))) (ap Some sent_2_read) (turns_so m m (Some (Ok (sent_2 ∷ []))) 0 7 server_1 server_2 server_3 server_3 served_0 served_1 1 ([] ∷ []) ((reply_1 ∷ []) ∷ []) [] ([] ∷ []) [] refl (user_session, (login_text, login_answered m, record { host = refl; sessions = refl; out = refl })) refl refl refl refl) (reply_1_read, tt) refl

pub small_7 : (m : Files) (steps : List Step) → IsSmall (world_8 m steps)
small_7 m steps = small_at m engine_6 ([]) (sent_0 ∷ sent_1 ∷ sent_2 ∷ sent_3 ∷ sent_4 ∷ []) server_3 served_1 (reply_0 ∷ reply_1 ∷ []) steps (sent_0_read, (sent_1_read, (sent_2_read, (sent_3_read, (sent_4_read, tt))))) (reply_0_read, (reply_1_read, tt)) (lit≤ tt) (lit≤ tt)

pub moves_8 : (m : Files) (steps : List Step)
    → Moves contents may_give count pace (world_8 m steps) (ServerTurns (Some 2) 0 8) (world_9 m steps)
moves_8 m steps =
    server_moves m m engine_6 ([]) (sent_0 ∷ sent_1 ∷ sent_2 ∷ sent_3 ∷ sent_4 ∷ []) server_3 server_4 served_1 served_1 (reply_0 ∷ reply_1 ∷ []) (reply_0 ∷ reply_1 ∷ reply_2 ∷ []) steps (Some 2) 0 8 (Some (Ok (sent_2 ∷ []))) (((reply_2 ∷ []) ∷ []) ++ (([] ∷ []) ++ (([] ++ ([] ∷ [])) ++ []))) (ap Some sent_2_read) (turns_so m m (Some (Ok (sent_2 ∷ []))) 0 8 server_3 server_4 server_4 server_4 served_1 served_1 1 ((reply_2 ∷ []) ∷ []) ([] ∷ []) [] ([] ∷ []) [] refl (served_1.session, ((refl, refl), record { host = refl; sessions = refl; out = refl })) refl refl refl refl) (reply_2_read, tt) refl

pub small_8 : (m : Files) (steps : List Step) → IsSmall (world_9 m steps)
small_8 m steps = small_at m engine_6 ([]) (sent_0 ∷ sent_1 ∷ sent_2 ∷ sent_3 ∷ sent_4 ∷ []) server_4 served_1 (reply_0 ∷ reply_1 ∷ reply_2 ∷ []) steps (sent_0_read, (sent_1_read, (sent_2_read, (sent_3_read, (sent_4_read, tt))))) (reply_0_read, (reply_1_read, (reply_2_read, tt))) (lit≤ tt) (lit≤ tt)

pub moves_9 : (m : Files) (steps : List Step)
    → Moves contents may_give count pace (world_9 m steps) (EngineSteps step_9 (Some 1)) (world_10 m (step_9 ∷ steps))
moves_9 m steps =
    engine_turns m engine_6 engine_7 ([]) (sent_0 ∷ sent_1 ∷ sent_2 ∷ sent_3 ∷ sent_4 ∷ []) (sent_0 ∷ sent_1 ∷ sent_2 ∷ sent_3 ∷ sent_4 ∷ []) server_4 served_1 (reply_0 ∷ reply_1 ∷ reply_2 ∷ []) steps 9 (Some 1) (Some (Ok (reply_1 ∷ []))) ([] ∷ []) (9000000, tt, refl) refl (ap Some reply_1_read) refl tt refl

pub small_9 : (m : Files) (steps : List Step) → IsSmall (world_10 m (step_9 ∷ steps))
small_9 m steps = small_at m engine_7 ([]) (sent_0 ∷ sent_1 ∷ sent_2 ∷ sent_3 ∷ sent_4 ∷ []) server_4 served_1 (reply_0 ∷ reply_1 ∷ reply_2 ∷ []) (step_9 ∷ steps) (sent_0_read, (sent_1_read, (sent_2_read, (sent_3_read, (sent_4_read, tt))))) (reply_0_read, (reply_1_read, (reply_2_read, tt))) (lit≤ tt) (lit≤ tt)

pub moves_10 : (m : Files) (steps : List Step)
    → Moves contents may_give count pace (world_10 m steps) (EngineSteps step_10 None) (world_11 m (step_10 ∷ steps))
moves_10 m steps =
    engine_reads m engine_7 engine_8 ([]) ([]) ([]) (sent_0 ∷ sent_1 ∷ sent_2 ∷ sent_3 ∷ sent_4 ∷ []) server_4 served_1 (reply_0 ∷ reply_1 ∷ reply_2 ∷ []) steps login_text refl refl

pub small_10 : (m : Files) (steps : List Step) → IsSmall (world_11 m (step_10 ∷ steps))
small_10 m steps = small_at m engine_8 ([]) (sent_0 ∷ sent_1 ∷ sent_2 ∷ sent_3 ∷ sent_4 ∷ []) server_4 served_1 (reply_0 ∷ reply_1 ∷ reply_2 ∷ []) (step_10 ∷ steps) (sent_0_read, (sent_1_read, (sent_2_read, (sent_3_read, (sent_4_read, tt))))) (reply_0_read, (reply_1_read, (reply_2_read, tt))) (lit≤ tt) (lit≤ tt)

pub moves_11 : (m : Files) (steps : List Step)
    → Moves contents may_give count pace (world_11 m steps) (ServerTurns (Some 4) 0 10) (world_12 m steps)
moves_11 m steps =
    server_moves m m engine_8 ([]) (sent_0 ∷ sent_1 ∷ sent_2 ∷ sent_3 ∷ sent_4 ∷ []) server_4 server_5 served_1 served_1 (reply_0 ∷ reply_1 ∷ reply_2 ∷ []) (reply_0 ∷ reply_1 ∷ reply_2 ∷ []) steps (Some 4) 0 10 (Some (Ok (sent_4 ∷ []))) (([] ∷ []) ++ (([] ∷ []) ++ (([] ++ ([] ∷ [])) ++ []))) (ap Some sent_4_read) (turns_so m m (Some (Ok (sent_4 ∷ []))) 0 10 server_4 server_5 server_5 server_5 served_1 served_1 1 ([] ∷ []) ([] ∷ []) [] ([] ∷ []) [] refl (served_1.session, ((refl, refl), record { host = refl; sessions = refl; out = refl })) refl refl refl refl) tt refl

pub small_11 : (m : Files) (steps : List Step) → IsSmall (world_12 m steps)
small_11 m steps = small_at m engine_8 ([]) (sent_0 ∷ sent_1 ∷ sent_2 ∷ sent_3 ∷ sent_4 ∷ []) server_5 served_1 (reply_0 ∷ reply_1 ∷ reply_2 ∷ []) steps (sent_0_read, (sent_1_read, (sent_2_read, (sent_3_read, (sent_4_read, tt))))) (reply_0_read, (reply_1_read, (reply_2_read, tt))) (lit≤ tt) (lit≤ tt)

pub moves_12 : (m : Files) (steps : List Step)
    → Moves contents may_give count pace (world_12 m steps) (EngineSteps step_12 None) (world_13 m (step_12 ∷ steps))
moves_12 m steps =
    engine_turns m engine_8 engine_9 ([]) (sent_0 ∷ sent_1 ∷ sent_2 ∷ sent_3 ∷ sent_4 ∷ []) (sent_0 ∷ sent_1 ∷ sent_2 ∷ sent_3 ∷ sent_4 ∷ []) server_5 served_1 (reply_0 ∷ reply_1 ∷ reply_2 ∷ []) steps 11 None None ([]) (11000000, tt, refl) refl refl refl tt refl

pub small_12 : (m : Files) (steps : List Step) → IsSmall (world_13 m (step_12 ∷ steps))
small_12 m steps = small_at m engine_9 ([]) (sent_0 ∷ sent_1 ∷ sent_2 ∷ sent_3 ∷ sent_4 ∷ []) server_5 served_1 (reply_0 ∷ reply_1 ∷ reply_2 ∷ []) (step_12 ∷ steps) (sent_0_read, (sent_1_read, (sent_2_read, (sent_3_read, (sent_4_read, tt))))) (reply_0_read, (reply_1_read, (reply_2_read, tt))) (lit≤ tt) (lit≤ tt)

pub moves_13 : (m : Files) (steps : List Step)
    → Moves contents may_give count pace (world_13 m steps) (EngineSteps step_13 None) (world_14 m (step_13 ∷ steps))
moves_13 m steps =
    engine_turns m engine_9 engine_10 ([]) (sent_0 ∷ sent_1 ∷ sent_2 ∷ sent_3 ∷ sent_4 ∷ []) (sent_0 ∷ sent_1 ∷ sent_2 ∷ sent_3 ∷ sent_4 ∷ sent_5 ∷ sent_6 ∷ []) server_5 served_1 (reply_0 ∷ reply_1 ∷ reply_2 ∷ []) steps 511 None None ((sent_5 ∷ []) ∷ (sent_6 ∷ []) ∷ []) (511000000, tt, refl) refl refl refl (sent_5_read, (sent_6_read, tt)) refl

pub small_13 : (m : Files) (steps : List Step) → IsSmall (world_14 m (step_13 ∷ steps))
small_13 m steps = small_at m engine_10 ([]) (sent_0 ∷ sent_1 ∷ sent_2 ∷ sent_3 ∷ sent_4 ∷ sent_5 ∷ sent_6 ∷ []) server_5 served_1 (reply_0 ∷ reply_1 ∷ reply_2 ∷ []) (step_13 ∷ steps) (sent_0_read, (sent_1_read, (sent_2_read, (sent_3_read, (sent_4_read, (sent_5_read, (sent_6_read, tt))))))) (reply_0_read, (reply_1_read, (reply_2_read, tt))) (lit≤ tt) (lit≤ tt)

pub moves_14 : (m : Files) (steps : List Step)
    → Moves contents may_give count pace (world_14 m steps) (ServerTurns (Some 5) 0 512) (world_15 m steps)
moves_14 m steps =
    server_moves m m engine_10 ([]) (sent_0 ∷ sent_1 ∷ sent_2 ∷ sent_3 ∷ sent_4 ∷ sent_5 ∷ sent_6 ∷ []) server_5 server_7 served_1 served_2 (reply_0 ∷ reply_1 ∷ reply_2 ∷ []) (reply_0 ∷ reply_1 ∷ reply_2 ∷ reply_3 ∷ []) steps (Some 5) 0 512 (Some (Ok (sent_5 ∷ []))) (([] ∷ []) ++ (((reply_3 ∷ []) ∷ []) ++ (([] ++ ([] ∷ [])) ++ []))) (ap Some sent_5_read) (turns_so m m (Some (Ok (sent_5 ∷ []))) 0 512 server_5 server_6 server_7 server_7 served_1 served_2 1 ([] ∷ []) ((reply_3 ∷ []) ∷ []) [] ([] ∷ []) [] refl ((write_session []), (write_opened_text, write_opened m, record { host = refl; sessions = refl; out = refl })) refl refl refl refl) (reply_3_read, tt) refl

pub small_14 : (m : Files) (steps : List Step) → IsSmall (world_15 m steps)
small_14 m steps = small_at m engine_10 ([]) (sent_0 ∷ sent_1 ∷ sent_2 ∷ sent_3 ∷ sent_4 ∷ sent_5 ∷ sent_6 ∷ []) server_7 served_2 (reply_0 ∷ reply_1 ∷ reply_2 ∷ reply_3 ∷ []) steps (sent_0_read, (sent_1_read, (sent_2_read, (sent_3_read, (sent_4_read, (sent_5_read, (sent_6_read, tt))))))) (reply_0_read, (reply_1_read, (reply_2_read, (reply_3_read, tt)))) (lit≤ tt) (lit≤ tt)

pub moves_15 : (m : Files) (steps : List Step)
    → Moves contents may_give count pace (world_15 m steps) (ServerTurns None 0 513) (world_16 m steps)
moves_15 m steps =
    server_moves m m engine_10 ([]) (sent_0 ∷ sent_1 ∷ sent_2 ∷ sent_3 ∷ sent_4 ∷ sent_5 ∷ sent_6 ∷ []) server_7 server_8 served_2 served_3 (reply_0 ∷ reply_1 ∷ reply_2 ∷ reply_3 ∷ []) (reply_0 ∷ reply_1 ∷ reply_2 ∷ reply_3 ∷ reply_4 ∷ []) steps None 0 513 None (([]) ++ (((reply_4 ∷ []) ∷ []) ++ (([] ++ ([] ∷ [])) ++ []))) refl (turns_so m m None 0 513 server_7 server_7 server_8 server_8 served_2 served_3 1 ([]) ((reply_4 ∷ []) ∷ []) [] ([] ∷ []) [] refl ((write_session (codes "HI")), (wrote_text, wrote m, record { host = refl; sessions = refl; out = refl })) refl refl refl refl) (reply_4_read, tt) refl

pub small_15 : (m : Files) (steps : List Step) → IsSmall (world_16 m steps)
small_15 m steps = small_at m engine_10 ([]) (sent_0 ∷ sent_1 ∷ sent_2 ∷ sent_3 ∷ sent_4 ∷ sent_5 ∷ sent_6 ∷ []) server_8 served_3 (reply_0 ∷ reply_1 ∷ reply_2 ∷ reply_3 ∷ reply_4 ∷ []) steps (sent_0_read, (sent_1_read, (sent_2_read, (sent_3_read, (sent_4_read, (sent_5_read, (sent_6_read, tt))))))) (reply_0_read, (reply_1_read, (reply_2_read, (reply_3_read, (reply_4_read, tt))))) (lit≤ tt) (lit≤ tt)

pub moves_16 : (m : Files) (steps : List Step)
    → Moves contents may_give count pace (world_16 m steps) (EngineSteps step_16 (Some 4)) (world_17 m (step_16 ∷ steps))
moves_16 m steps =
    engine_turns m engine_10 engine_11 ([]) (sent_0 ∷ sent_1 ∷ sent_2 ∷ sent_3 ∷ sent_4 ∷ sent_5 ∷ sent_6 ∷ []) (sent_0 ∷ sent_1 ∷ sent_2 ∷ sent_3 ∷ sent_4 ∷ sent_5 ∷ sent_6 ∷ []) server_8 served_3 (reply_0 ∷ reply_1 ∷ reply_2 ∷ reply_3 ∷ reply_4 ∷ []) steps 514 (Some 4) (Some (Ok (reply_4 ∷ []))) ([] ∷ []) (514000000, tt, refl) refl (ap Some reply_4_read) refl tt refl

pub small_16 : (m : Files) (steps : List Step) → IsSmall (world_17 m (step_16 ∷ steps))
small_16 m steps = small_at m engine_11 ([]) (sent_0 ∷ sent_1 ∷ sent_2 ∷ sent_3 ∷ sent_4 ∷ sent_5 ∷ sent_6 ∷ []) server_8 served_3 (reply_0 ∷ reply_1 ∷ reply_2 ∷ reply_3 ∷ reply_4 ∷ []) (step_16 ∷ steps) (sent_0_read, (sent_1_read, (sent_2_read, (sent_3_read, (sent_4_read, (sent_5_read, (sent_6_read, tt))))))) (reply_0_read, (reply_1_read, (reply_2_read, (reply_3_read, (reply_4_read, tt))))) (lit≤ tt) (lit≤ tt)

pub moves_17 : (m : Files) (steps : List Step)
    → Moves contents may_give count pace (world_17 m steps) (EngineSteps step_17 (Some 3)) (world_18 m (step_17 ∷ steps))
moves_17 m steps =
    engine_turns m engine_11 engine_12 ([]) (sent_0 ∷ sent_1 ∷ sent_2 ∷ sent_3 ∷ sent_4 ∷ sent_5 ∷ sent_6 ∷ []) (sent_0 ∷ sent_1 ∷ sent_2 ∷ sent_3 ∷ sent_4 ∷ sent_5 ∷ sent_6 ∷ []) server_8 served_3 (reply_0 ∷ reply_1 ∷ reply_2 ∷ reply_3 ∷ reply_4 ∷ []) steps 515 (Some 3) (Some (Ok (reply_3 ∷ []))) ([] ∷ []) (515000000, tt, refl) refl (ap Some reply_3_read) refl tt refl

pub small_17 : (m : Files) (steps : List Step) → IsSmall (world_18 m (step_17 ∷ steps))
small_17 m steps = small_at m engine_12 ([]) (sent_0 ∷ sent_1 ∷ sent_2 ∷ sent_3 ∷ sent_4 ∷ sent_5 ∷ sent_6 ∷ []) server_8 served_3 (reply_0 ∷ reply_1 ∷ reply_2 ∷ reply_3 ∷ reply_4 ∷ []) (step_17 ∷ steps) (sent_0_read, (sent_1_read, (sent_2_read, (sent_3_read, (sent_4_read, (sent_5_read, (sent_6_read, tt))))))) (reply_0_read, (reply_1_read, (reply_2_read, (reply_3_read, (reply_4_read, tt))))) (lit≤ tt) (lit≤ tt)

pub moves_18 : (m : Files) (steps : List Step)
    → Moves contents may_give count pace (world_18 m steps) (EngineSteps step_18 None) (world_19 m (step_18 ∷ steps))
moves_18 m steps =
    engine_reads m engine_12 engine_13 ([]) ([]) ([]) (sent_0 ∷ sent_1 ∷ sent_2 ∷ sent_3 ∷ sent_4 ∷ sent_5 ∷ sent_6 ∷ []) server_8 served_3 (reply_0 ∷ reply_1 ∷ reply_2 ∷ reply_3 ∷ reply_4 ∷ []) steps write_opened_text refl refl

pub small_18 : (m : Files) (steps : List Step) → IsSmall (world_19 m (step_18 ∷ steps))
small_18 m steps = small_at m engine_13 ([]) (sent_0 ∷ sent_1 ∷ sent_2 ∷ sent_3 ∷ sent_4 ∷ sent_5 ∷ sent_6 ∷ []) server_8 served_3 (reply_0 ∷ reply_1 ∷ reply_2 ∷ reply_3 ∷ reply_4 ∷ []) (step_18 ∷ steps) (sent_0_read, (sent_1_read, (sent_2_read, (sent_3_read, (sent_4_read, (sent_5_read, (sent_6_read, tt))))))) (reply_0_read, (reply_1_read, (reply_2_read, (reply_3_read, (reply_4_read, tt))))) (lit≤ tt) (lit≤ tt)

pub moves_19 : (m : Files) (steps : List Step)
    → Moves contents may_give count pace (world_19 m steps) (EngineSteps step_19 None) (world_20 m (step_19 ∷ steps))
moves_19 m steps =
    engine_reads m engine_13 engine_14 ([]) ([]) ([]) (sent_0 ∷ sent_1 ∷ sent_2 ∷ sent_3 ∷ sent_4 ∷ sent_5 ∷ sent_6 ∷ []) server_8 served_3 (reply_0 ∷ reply_1 ∷ reply_2 ∷ reply_3 ∷ reply_4 ∷ []) steps wrote_text refl refl

pub small_19 : (m : Files) (steps : List Step) → IsSmall (world_20 m (step_19 ∷ steps))
small_19 m steps = small_at m engine_14 ([]) (sent_0 ∷ sent_1 ∷ sent_2 ∷ sent_3 ∷ sent_4 ∷ sent_5 ∷ sent_6 ∷ []) server_8 served_3 (reply_0 ∷ reply_1 ∷ reply_2 ∷ reply_3 ∷ reply_4 ∷ []) (step_19 ∷ steps) (sent_0_read, (sent_1_read, (sent_2_read, (sent_3_read, (sent_4_read, (sent_5_read, (sent_6_read, tt))))))) (reply_0_read, (reply_1_read, (reply_2_read, (reply_3_read, (reply_4_read, tt))))) (lit≤ tt) (lit≤ tt)

pub moves_20 : (m : Files) (steps : List Step)
    → Moves contents may_give count pace (world_20 m steps) (EngineSteps step_20 None) (world_21 m (step_20 ∷ steps))
moves_20 m steps =
    engine_writes m engine_14 engine_15 ([]) (sent_7 ∷ []) (sent_7 ∷ []) (sent_0 ∷ sent_1 ∷ sent_2 ∷ sent_3 ∷ sent_4 ∷ sent_5 ∷ sent_6 ∷ []) server_8 served_3 (reply_0 ∷ reply_1 ∷ reply_2 ∷ reply_3 ∷ reply_4 ∷ []) steps write_close_text 516 104 (516000000, tt, refl) refl refl

pub small_20 : (m : Files) (steps : List Step) → IsSmall (world_21 m (step_20 ∷ steps))
small_20 m steps = small_at m engine_15 (sent_7 ∷ []) (sent_0 ∷ sent_1 ∷ sent_2 ∷ sent_3 ∷ sent_4 ∷ sent_5 ∷ sent_6 ∷ []) server_8 served_3 (reply_0 ∷ reply_1 ∷ reply_2 ∷ reply_3 ∷ reply_4 ∷ []) (step_20 ∷ steps) (sent_0_read, (sent_1_read, (sent_2_read, (sent_3_read, (sent_4_read, (sent_5_read, (sent_6_read, tt))))))) (reply_0_read, (reply_1_read, (reply_2_read, (reply_3_read, (reply_4_read, tt))))) (lit≤ tt) (lit≤ tt)

pub moves_21 : (m : Files) (steps : List Step)
    → Moves contents may_give count pace (world_21 m steps) (EngineSteps step_21 None) (world_22 m (step_21 ∷ steps))
moves_21 m steps =
    engine_turns m engine_15 engine_16 (sent_7 ∷ []) (sent_0 ∷ sent_1 ∷ sent_2 ∷ sent_3 ∷ sent_4 ∷ sent_5 ∷ sent_6 ∷ []) (sent_0 ∷ sent_1 ∷ sent_2 ∷ sent_3 ∷ sent_4 ∷ sent_5 ∷ sent_6 ∷ sent_7 ∷ []) server_8 served_3 (reply_0 ∷ reply_1 ∷ reply_2 ∷ reply_3 ∷ reply_4 ∷ []) steps 517 None None ([]) (517000000, tt, refl) refl refl refl (sent_7_read, tt) refl

pub small_21 : (m : Files) (steps : List Step) → IsSmall (world_22 m (step_21 ∷ steps))
small_21 m steps = small_at m engine_16 ([]) (sent_0 ∷ sent_1 ∷ sent_2 ∷ sent_3 ∷ sent_4 ∷ sent_5 ∷ sent_6 ∷ sent_7 ∷ []) server_8 served_3 (reply_0 ∷ reply_1 ∷ reply_2 ∷ reply_3 ∷ reply_4 ∷ []) (step_21 ∷ steps) (sent_0_read, (sent_1_read, (sent_2_read, (sent_3_read, (sent_4_read, (sent_5_read, (sent_6_read, (sent_7_read, tt)))))))) (reply_0_read, (reply_1_read, (reply_2_read, (reply_3_read, (reply_4_read, tt))))) (lit≤ tt) (lit≤ tt)

pub moves_22 : (m : Files) (steps : List Step)
    → Moves contents may_give count pace (world_22 m steps) (ServerTurns (Some 7) 0 518) (world_23 m steps)
moves_22 m steps =
    server_moves m (stored m) engine_16 ([]) (sent_0 ∷ sent_1 ∷ sent_2 ∷ sent_3 ∷ sent_4 ∷ sent_5 ∷ sent_6 ∷ sent_7 ∷ []) server_8 server_10 served_3 served_4 (reply_0 ∷ reply_1 ∷ reply_2 ∷ reply_3 ∷ reply_4 ∷ []) (reply_0 ∷ reply_1 ∷ reply_2 ∷ reply_3 ∷ reply_4 ∷ reply_5 ∷ []) steps (Some 7) 0 518 (Some (Ok (sent_7 ∷ []))) (([] ∷ []) ++ (((reply_5 ∷ []) ∷ []) ++ (([] ++ ([] ∷ [])) ++ []))) (ap Some sent_7_read) (turns_so m (stored m) (Some (Ok (sent_7 ∷ []))) 0 518 server_8 server_9 server_10 server_10 served_3 served_4 1 ([] ∷ []) ((reply_5 ∷ []) ∷ []) [] ([] ∷ []) [] refl (user_session, (write_closed_text, write_closed m, record { host = refl; sessions = refl; out = refl })) refl refl refl refl) (reply_5_read, tt) refl

pub small_22 : (m : Files) (steps : List Step) → IsSmall (world_23 m steps)
small_22 m steps = small_at (stored m) engine_16 ([]) (sent_0 ∷ sent_1 ∷ sent_2 ∷ sent_3 ∷ sent_4 ∷ sent_5 ∷ sent_6 ∷ sent_7 ∷ []) server_10 served_4 (reply_0 ∷ reply_1 ∷ reply_2 ∷ reply_3 ∷ reply_4 ∷ reply_5 ∷ []) steps (sent_0_read, (sent_1_read, (sent_2_read, (sent_3_read, (sent_4_read, (sent_5_read, (sent_6_read, (sent_7_read, tt)))))))) (reply_0_read, (reply_1_read, (reply_2_read, (reply_3_read, (reply_4_read, (reply_5_read, tt)))))) (lit≤ tt) (lit≤ tt)

pub moves_23 : (m : Files) (steps : List Step)
    → Moves contents may_give count pace (world_23 m steps) (EngineSteps step_23 (Some 5)) (world_24 m (step_23 ∷ steps))
moves_23 m steps =
    engine_turns (stored m) engine_16 engine_17 ([]) (sent_0 ∷ sent_1 ∷ sent_2 ∷ sent_3 ∷ sent_4 ∷ sent_5 ∷ sent_6 ∷ sent_7 ∷ []) (sent_0 ∷ sent_1 ∷ sent_2 ∷ sent_3 ∷ sent_4 ∷ sent_5 ∷ sent_6 ∷ sent_7 ∷ []) server_10 served_4 (reply_0 ∷ reply_1 ∷ reply_2 ∷ reply_3 ∷ reply_4 ∷ reply_5 ∷ []) steps 519 (Some 5) (Some (Ok (reply_5 ∷ []))) ([] ∷ []) (519000000, tt, refl) refl (ap Some reply_5_read) refl tt refl

pub small_23 : (m : Files) (steps : List Step) → IsSmall (world_24 m (step_23 ∷ steps))
small_23 m steps = small_at (stored m) engine_17 ([]) (sent_0 ∷ sent_1 ∷ sent_2 ∷ sent_3 ∷ sent_4 ∷ sent_5 ∷ sent_6 ∷ sent_7 ∷ []) server_10 served_4 (reply_0 ∷ reply_1 ∷ reply_2 ∷ reply_3 ∷ reply_4 ∷ reply_5 ∷ []) (step_23 ∷ steps) (sent_0_read, (sent_1_read, (sent_2_read, (sent_3_read, (sent_4_read, (sent_5_read, (sent_6_read, (sent_7_read, tt)))))))) (reply_0_read, (reply_1_read, (reply_2_read, (reply_3_read, (reply_4_read, (reply_5_read, tt)))))) (lit≤ tt) (lit≤ tt)

pub moves_24 : (m : Files) (steps : List Step)
    → Moves contents may_give count pace (world_24 m steps) (EngineSteps step_24 None) (world_25 m (step_24 ∷ steps))
moves_24 m steps =
    engine_reads (stored m) engine_17 engine_18 ([]) ([]) ([]) (sent_0 ∷ sent_1 ∷ sent_2 ∷ sent_3 ∷ sent_4 ∷ sent_5 ∷ sent_6 ∷ sent_7 ∷ []) server_10 served_4 (reply_0 ∷ reply_1 ∷ reply_2 ∷ reply_3 ∷ reply_4 ∷ reply_5 ∷ []) steps write_closed_text refl refl

pub small_24 : (m : Files) (steps : List Step) → IsSmall (world_25 m (step_24 ∷ steps))
small_24 m steps = small_at (stored m) engine_18 ([]) (sent_0 ∷ sent_1 ∷ sent_2 ∷ sent_3 ∷ sent_4 ∷ sent_5 ∷ sent_6 ∷ sent_7 ∷ []) server_10 served_4 (reply_0 ∷ reply_1 ∷ reply_2 ∷ reply_3 ∷ reply_4 ∷ reply_5 ∷ []) (step_24 ∷ steps) (sent_0_read, (sent_1_read, (sent_2_read, (sent_3_read, (sent_4_read, (sent_5_read, (sent_6_read, (sent_7_read, tt)))))))) (reply_0_read, (reply_1_read, (reply_2_read, (reply_3_read, (reply_4_read, (reply_5_read, tt)))))) (lit≤ tt) (lit≤ tt)

pub moves_25 : (m : Files) (steps : List Step)
    → Moves contents may_give count pace (world_25 m steps) (EngineSteps step_25 None) (world_26 m (step_25 ∷ steps))
moves_25 m steps =
    engine_writes (stored m) engine_18 engine_19 ([]) (sent_8 ∷ []) (sent_8 ∷ []) (sent_0 ∷ sent_1 ∷ sent_2 ∷ sent_3 ∷ sent_4 ∷ sent_5 ∷ sent_6 ∷ sent_7 ∷ []) server_10 served_4 (reply_0 ∷ reply_1 ∷ reply_2 ∷ reply_3 ∷ reply_4 ∷ reply_5 ∷ []) steps open_text 520 105 (520000000, tt, refl) refl refl

pub small_25 : (m : Files) (steps : List Step) → IsSmall (world_26 m (step_25 ∷ steps))
small_25 m steps = small_at (stored m) engine_19 (sent_8 ∷ []) (sent_0 ∷ sent_1 ∷ sent_2 ∷ sent_3 ∷ sent_4 ∷ sent_5 ∷ sent_6 ∷ sent_7 ∷ []) server_10 served_4 (reply_0 ∷ reply_1 ∷ reply_2 ∷ reply_3 ∷ reply_4 ∷ reply_5 ∷ []) (step_25 ∷ steps) (sent_0_read, (sent_1_read, (sent_2_read, (sent_3_read, (sent_4_read, (sent_5_read, (sent_6_read, (sent_7_read, tt)))))))) (reply_0_read, (reply_1_read, (reply_2_read, (reply_3_read, (reply_4_read, (reply_5_read, tt)))))) (lit≤ tt) (lit≤ tt)

pub moves_26 : (m : Files) (steps : List Step)
    → Moves contents may_give count pace (world_26 m steps) (EngineSteps step_26 None) (world_27 m (step_26 ∷ steps))
moves_26 m steps =
    engine_turns (stored m) engine_19 engine_20 (sent_8 ∷ []) (sent_0 ∷ sent_1 ∷ sent_2 ∷ sent_3 ∷ sent_4 ∷ sent_5 ∷ sent_6 ∷ sent_7 ∷ []) (sent_0 ∷ sent_1 ∷ sent_2 ∷ sent_3 ∷ sent_4 ∷ sent_5 ∷ sent_6 ∷ sent_7 ∷ sent_8 ∷ []) server_10 served_4 (reply_0 ∷ reply_1 ∷ reply_2 ∷ reply_3 ∷ reply_4 ∷ reply_5 ∷ []) steps 521 None None ([]) (521000000, tt, refl) refl refl refl (sent_8_read, tt) refl

pub small_26 : (m : Files) (steps : List Step) → IsSmall (world_27 m (step_26 ∷ steps))
small_26 m steps = small_at (stored m) engine_20 ([]) (sent_0 ∷ sent_1 ∷ sent_2 ∷ sent_3 ∷ sent_4 ∷ sent_5 ∷ sent_6 ∷ sent_7 ∷ sent_8 ∷ []) server_10 served_4 (reply_0 ∷ reply_1 ∷ reply_2 ∷ reply_3 ∷ reply_4 ∷ reply_5 ∷ []) (step_26 ∷ steps) (sent_0_read, (sent_1_read, (sent_2_read, (sent_3_read, (sent_4_read, (sent_5_read, (sent_6_read, (sent_7_read, (sent_8_read, tt))))))))) (reply_0_read, (reply_1_read, (reply_2_read, (reply_3_read, (reply_4_read, (reply_5_read, tt)))))) (lit≤ tt) (lit≤ tt)

pub moves_27 : (m : Files) (steps : List Step)
    → Moves contents may_give count pace (world_27 m steps) (ServerTurns (Some 8) 0 522) (world_28 m steps)
moves_27 m steps =
    server_moves (stored m) (stored m) engine_20 ([]) (sent_0 ∷ sent_1 ∷ sent_2 ∷ sent_3 ∷ sent_4 ∷ sent_5 ∷ sent_6 ∷ sent_7 ∷ sent_8 ∷ []) server_10 server_12 served_4 served_5 (reply_0 ∷ reply_1 ∷ reply_2 ∷ reply_3 ∷ reply_4 ∷ reply_5 ∷ []) (reply_0 ∷ reply_1 ∷ reply_2 ∷ reply_3 ∷ reply_4 ∷ reply_5 ∷ reply_6 ∷ []) steps (Some 8) 0 522 (Some (Ok (sent_8 ∷ []))) (([] ∷ []) ++ (((reply_6 ∷ []) ∷ []) ++ (([] ++ ([] ∷ [])) ++ []))) (ap Some sent_8_read) (turns_so (stored m) (stored m) (Some (Ok (sent_8 ∷ []))) 0 522 server_10 server_11 server_12 server_12 served_4 served_5 1 ([] ∷ []) ((reply_6 ∷ []) ∷ []) [] ([] ∷ []) [] refl ((read_session 0), (opened_text, open_answered m, record { host = refl; sessions = refl; out = refl })) refl refl refl refl) (reply_6_read, tt) refl

pub small_27 : (m : Files) (steps : List Step) → IsSmall (world_28 m steps)
small_27 m steps = small_at (stored m) engine_20 ([]) (sent_0 ∷ sent_1 ∷ sent_2 ∷ sent_3 ∷ sent_4 ∷ sent_5 ∷ sent_6 ∷ sent_7 ∷ sent_8 ∷ []) server_12 served_5 (reply_0 ∷ reply_1 ∷ reply_2 ∷ reply_3 ∷ reply_4 ∷ reply_5 ∷ reply_6 ∷ []) steps (sent_0_read, (sent_1_read, (sent_2_read, (sent_3_read, (sent_4_read, (sent_5_read, (sent_6_read, (sent_7_read, (sent_8_read, tt))))))))) (reply_0_read, (reply_1_read, (reply_2_read, (reply_3_read, (reply_4_read, (reply_5_read, (reply_6_read, tt))))))) (lit≤ tt) (lit≤ tt)

pub moves_28 : (m : Files) (steps : List Step)
    → Moves contents may_give count pace (world_28 m steps) (EngineSteps step_28 (Some 6)) (world_29 m (step_28 ∷ steps))
moves_28 m steps =
    engine_turns (stored m) engine_20 engine_21 ([]) (sent_0 ∷ sent_1 ∷ sent_2 ∷ sent_3 ∷ sent_4 ∷ sent_5 ∷ sent_6 ∷ sent_7 ∷ sent_8 ∷ []) (sent_0 ∷ sent_1 ∷ sent_2 ∷ sent_3 ∷ sent_4 ∷ sent_5 ∷ sent_6 ∷ sent_7 ∷ sent_8 ∷ []) server_12 served_5 (reply_0 ∷ reply_1 ∷ reply_2 ∷ reply_3 ∷ reply_4 ∷ reply_5 ∷ reply_6 ∷ []) steps 523 (Some 6) (Some (Ok (reply_6 ∷ []))) ([] ∷ []) (523000000, tt, refl) refl (ap Some reply_6_read) refl tt refl

pub small_28 : (m : Files) (steps : List Step) → IsSmall (world_29 m (step_28 ∷ steps))
small_28 m steps = small_at (stored m) engine_21 ([]) (sent_0 ∷ sent_1 ∷ sent_2 ∷ sent_3 ∷ sent_4 ∷ sent_5 ∷ sent_6 ∷ sent_7 ∷ sent_8 ∷ []) server_12 served_5 (reply_0 ∷ reply_1 ∷ reply_2 ∷ reply_3 ∷ reply_4 ∷ reply_5 ∷ reply_6 ∷ []) (step_28 ∷ steps) (sent_0_read, (sent_1_read, (sent_2_read, (sent_3_read, (sent_4_read, (sent_5_read, (sent_6_read, (sent_7_read, (sent_8_read, tt))))))))) (reply_0_read, (reply_1_read, (reply_2_read, (reply_3_read, (reply_4_read, (reply_5_read, (reply_6_read, tt))))))) (lit≤ tt) (lit≤ tt)

pub moves_29 : (m : Files) (steps : List Step)
    → Moves contents may_give count pace (world_29 m steps) (EngineSteps step_29 None) (world_30 m (step_29 ∷ steps))
moves_29 m steps =
    engine_reads (stored m) engine_21 engine_22 ([]) ([]) ([]) (sent_0 ∷ sent_1 ∷ sent_2 ∷ sent_3 ∷ sent_4 ∷ sent_5 ∷ sent_6 ∷ sent_7 ∷ sent_8 ∷ []) server_12 served_5 (reply_0 ∷ reply_1 ∷ reply_2 ∷ reply_3 ∷ reply_4 ∷ reply_5 ∷ reply_6 ∷ []) steps opened_text refl refl

pub small_29 : (m : Files) (steps : List Step) → IsSmall (world_30 m (step_29 ∷ steps))
small_29 m steps = small_at (stored m) engine_22 ([]) (sent_0 ∷ sent_1 ∷ sent_2 ∷ sent_3 ∷ sent_4 ∷ sent_5 ∷ sent_6 ∷ sent_7 ∷ sent_8 ∷ []) server_12 served_5 (reply_0 ∷ reply_1 ∷ reply_2 ∷ reply_3 ∷ reply_4 ∷ reply_5 ∷ reply_6 ∷ []) (step_29 ∷ steps) (sent_0_read, (sent_1_read, (sent_2_read, (sent_3_read, (sent_4_read, (sent_5_read, (sent_6_read, (sent_7_read, (sent_8_read, tt))))))))) (reply_0_read, (reply_1_read, (reply_2_read, (reply_3_read, (reply_4_read, (reply_5_read, (reply_6_read, tt))))))) (lit≤ tt) (lit≤ tt)

pub moves_30 : (m : Files) (steps : List Step)
    → Moves contents may_give count pace (world_30 m steps) (EngineSteps step_30 None) (world_31 m (step_30 ∷ steps))
moves_30 m steps =
    engine_writes (stored m) engine_22 engine_23 ([]) (sent_9 ∷ []) (sent_9 ∷ []) (sent_0 ∷ sent_1 ∷ sent_2 ∷ sent_3 ∷ sent_4 ∷ sent_5 ∷ sent_6 ∷ sent_7 ∷ sent_8 ∷ []) server_12 served_5 (reply_0 ∷ reply_1 ∷ reply_2 ∷ reply_3 ∷ reply_4 ∷ reply_5 ∷ reply_6 ∷ []) steps read_text 524 106 (524000000, tt, refl) refl refl

pub small_30 : (m : Files) (steps : List Step) → IsSmall (world_31 m (step_30 ∷ steps))
small_30 m steps = small_at (stored m) engine_23 (sent_9 ∷ []) (sent_0 ∷ sent_1 ∷ sent_2 ∷ sent_3 ∷ sent_4 ∷ sent_5 ∷ sent_6 ∷ sent_7 ∷ sent_8 ∷ []) server_12 served_5 (reply_0 ∷ reply_1 ∷ reply_2 ∷ reply_3 ∷ reply_4 ∷ reply_5 ∷ reply_6 ∷ []) (step_30 ∷ steps) (sent_0_read, (sent_1_read, (sent_2_read, (sent_3_read, (sent_4_read, (sent_5_read, (sent_6_read, (sent_7_read, (sent_8_read, tt))))))))) (reply_0_read, (reply_1_read, (reply_2_read, (reply_3_read, (reply_4_read, (reply_5_read, (reply_6_read, tt))))))) (lit≤ tt) (lit≤ tt)

pub moves_31 : (m : Files) (steps : List Step)
    → Moves contents may_give count pace (world_31 m steps) (EngineSteps step_31 None) (world_32 m (step_31 ∷ steps))
moves_31 m steps =
    engine_writes (stored m) engine_23 engine_24 (sent_9 ∷ []) (sent_9 ∷ sent_10 ∷ []) (sent_10 ∷ []) (sent_0 ∷ sent_1 ∷ sent_2 ∷ sent_3 ∷ sent_4 ∷ sent_5 ∷ sent_6 ∷ sent_7 ∷ sent_8 ∷ []) server_12 served_5 (reply_0 ∷ reply_1 ∷ reply_2 ∷ reply_3 ∷ reply_4 ∷ reply_5 ∷ reply_6 ∷ []) steps more_text 524 107 (524000000, tt, refl) refl refl

pub small_31 : (m : Files) (steps : List Step) → IsSmall (world_32 m (step_31 ∷ steps))
small_31 m steps = small_at (stored m) engine_24 (sent_9 ∷ sent_10 ∷ []) (sent_0 ∷ sent_1 ∷ sent_2 ∷ sent_3 ∷ sent_4 ∷ sent_5 ∷ sent_6 ∷ sent_7 ∷ sent_8 ∷ []) server_12 served_5 (reply_0 ∷ reply_1 ∷ reply_2 ∷ reply_3 ∷ reply_4 ∷ reply_5 ∷ reply_6 ∷ []) (step_31 ∷ steps) (sent_0_read, (sent_1_read, (sent_2_read, (sent_3_read, (sent_4_read, (sent_5_read, (sent_6_read, (sent_7_read, (sent_8_read, tt))))))))) (reply_0_read, (reply_1_read, (reply_2_read, (reply_3_read, (reply_4_read, (reply_5_read, (reply_6_read, tt))))))) (lit≤ tt) (lit≤ tt)

pub moves_32 : (m : Files) (steps : List Step)
    → Moves contents may_give count pace (world_32 m steps) (EngineSteps step_32 None) (world_33 m (step_32 ∷ steps))
moves_32 m steps =
    engine_writes (stored m) engine_24 engine_25 (sent_9 ∷ sent_10 ∷ []) (sent_9 ∷ sent_10 ∷ sent_11 ∷ []) (sent_11 ∷ []) (sent_0 ∷ sent_1 ∷ sent_2 ∷ sent_3 ∷ sent_4 ∷ sent_5 ∷ sent_6 ∷ sent_7 ∷ sent_8 ∷ []) server_12 served_5 (reply_0 ∷ reply_1 ∷ reply_2 ∷ reply_3 ∷ reply_4 ∷ reply_5 ∷ reply_6 ∷ []) steps close_text 524 108 (524000000, tt, refl) refl refl

pub small_32 : (m : Files) (steps : List Step) → IsSmall (world_33 m (step_32 ∷ steps))
small_32 m steps = small_at (stored m) engine_25 (sent_9 ∷ sent_10 ∷ sent_11 ∷ []) (sent_0 ∷ sent_1 ∷ sent_2 ∷ sent_3 ∷ sent_4 ∷ sent_5 ∷ sent_6 ∷ sent_7 ∷ sent_8 ∷ []) server_12 served_5 (reply_0 ∷ reply_1 ∷ reply_2 ∷ reply_3 ∷ reply_4 ∷ reply_5 ∷ reply_6 ∷ []) (step_32 ∷ steps) (sent_0_read, (sent_1_read, (sent_2_read, (sent_3_read, (sent_4_read, (sent_5_read, (sent_6_read, (sent_7_read, (sent_8_read, tt))))))))) (reply_0_read, (reply_1_read, (reply_2_read, (reply_3_read, (reply_4_read, (reply_5_read, (reply_6_read, tt))))))) (lit≤ tt) (lit≤ tt)

pub moves_33 : (m : Files) (steps : List Step)
    → Moves contents may_give count pace (world_33 m steps) (EngineSteps step_33 None) (world_34 m (step_33 ∷ steps))
moves_33 m steps =
    engine_turns (stored m) engine_25 engine_26 (sent_9 ∷ sent_10 ∷ sent_11 ∷ []) (sent_0 ∷ sent_1 ∷ sent_2 ∷ sent_3 ∷ sent_4 ∷ sent_5 ∷ sent_6 ∷ sent_7 ∷ sent_8 ∷ []) (sent_0 ∷ sent_1 ∷ sent_2 ∷ sent_3 ∷ sent_4 ∷ sent_5 ∷ sent_6 ∷ sent_7 ∷ sent_8 ∷ sent_9 ∷ sent_10 ∷ sent_11 ∷ []) server_12 served_5 (reply_0 ∷ reply_1 ∷ reply_2 ∷ reply_3 ∷ reply_4 ∷ reply_5 ∷ reply_6 ∷ []) steps 525 None None ([]) (525000000, tt, refl) refl refl refl (sent_9_read, (sent_10_read, (sent_11_read, tt))) refl

pub small_33 : (m : Files) (steps : List Step) → IsSmall (world_34 m (step_33 ∷ steps))
small_33 m steps = small_at (stored m) engine_26 ([]) (sent_0 ∷ sent_1 ∷ sent_2 ∷ sent_3 ∷ sent_4 ∷ sent_5 ∷ sent_6 ∷ sent_7 ∷ sent_8 ∷ sent_9 ∷ sent_10 ∷ sent_11 ∷ []) server_12 served_5 (reply_0 ∷ reply_1 ∷ reply_2 ∷ reply_3 ∷ reply_4 ∷ reply_5 ∷ reply_6 ∷ []) (step_33 ∷ steps) (sent_0_read, (sent_1_read, (sent_2_read, (sent_3_read, (sent_4_read, (sent_5_read, (sent_6_read, (sent_7_read, (sent_8_read, (sent_9_read, (sent_10_read, (sent_11_read, tt)))))))))))) (reply_0_read, (reply_1_read, (reply_2_read, (reply_3_read, (reply_4_read, (reply_5_read, (reply_6_read, tt))))))) (lit≤ tt) (lit≤ tt)

pub moves_34 : (m : Files) (steps : List Step)
    → Moves contents may_give count pace (world_34 m steps) (ServerTurns (Some 10) 0 526) (world_35 m steps)
moves_34 m steps =
    server_moves (stored m) (stored m) engine_26 ([]) (sent_0 ∷ sent_1 ∷ sent_2 ∷ sent_3 ∷ sent_4 ∷ sent_5 ∷ sent_6 ∷ sent_7 ∷ sent_8 ∷ sent_9 ∷ sent_10 ∷ sent_11 ∷ []) server_12 server_13 served_5 served_5 (reply_0 ∷ reply_1 ∷ reply_2 ∷ reply_3 ∷ reply_4 ∷ reply_5 ∷ reply_6 ∷ []) (reply_0 ∷ reply_1 ∷ reply_2 ∷ reply_3 ∷ reply_4 ∷ reply_5 ∷ reply_6 ∷ []) steps (Some 10) 0 526 (Some (Ok (sent_10 ∷ []))) (([] ∷ []) ++ (([] ∷ []) ++ (([] ++ ([] ∷ [])) ++ []))) (ap Some sent_10_read) (turns_so (stored m) (stored m) (Some (Ok (sent_10 ∷ []))) 0 526 server_12 server_13 server_13 server_13 served_5 served_5 1 ([] ∷ []) ([] ∷ []) [] ([] ∷ []) [] refl (served_5.session, ((refl, refl), record { host = refl; sessions = refl; out = refl })) refl refl refl refl) tt refl

pub small_34 : (m : Files) (steps : List Step) → IsSmall (world_35 m steps)
small_34 m steps = small_at (stored m) engine_26 ([]) (sent_0 ∷ sent_1 ∷ sent_2 ∷ sent_3 ∷ sent_4 ∷ sent_5 ∷ sent_6 ∷ sent_7 ∷ sent_8 ∷ sent_9 ∷ sent_10 ∷ sent_11 ∷ []) server_13 served_5 (reply_0 ∷ reply_1 ∷ reply_2 ∷ reply_3 ∷ reply_4 ∷ reply_5 ∷ reply_6 ∷ []) steps (sent_0_read, (sent_1_read, (sent_2_read, (sent_3_read, (sent_4_read, (sent_5_read, (sent_6_read, (sent_7_read, (sent_8_read, (sent_9_read, (sent_10_read, (sent_11_read, tt)))))))))))) (reply_0_read, (reply_1_read, (reply_2_read, (reply_3_read, (reply_4_read, (reply_5_read, (reply_6_read, tt))))))) (lit≤ tt) (lit≤ tt)

pub moves_35 : (m : Files) (steps : List Step)
    → Moves contents may_give count pace (world_35 m steps) (ServerTurns (Some 9) 0 527) (world_36 m steps)
moves_35 m steps =
    server_moves (stored m) (stored m) engine_26 ([]) (sent_0 ∷ sent_1 ∷ sent_2 ∷ sent_3 ∷ sent_4 ∷ sent_5 ∷ sent_6 ∷ sent_7 ∷ sent_8 ∷ sent_9 ∷ sent_10 ∷ sent_11 ∷ []) server_13 server_15 served_5 served_6 (reply_0 ∷ reply_1 ∷ reply_2 ∷ reply_3 ∷ reply_4 ∷ reply_5 ∷ reply_6 ∷ []) (reply_0 ∷ reply_1 ∷ reply_2 ∷ reply_3 ∷ reply_4 ∷ reply_5 ∷ reply_6 ∷ reply_7 ∷ []) steps (Some 9) 0 527 (Some (Ok (sent_9 ∷ []))) (([] ∷ []) ++ (((reply_7 ∷ []) ∷ []) ++ (([] ++ ([] ∷ [])) ++ []))) (ap Some sent_9_read) (turns_so (stored m) (stored m) (Some (Ok (sent_9 ∷ []))) 0 527 server_13 server_14 server_15 server_15 served_5 served_6 1 ([] ∷ []) ((reply_7 ∷ []) ∷ []) [] ([] ∷ []) [] refl ((read_session 2), (bytes_text, read_answered (stored m), record { host = refl; sessions = refl; out = refl })) refl refl refl refl) (reply_7_read, tt) refl

pub small_35 : (m : Files) (steps : List Step) → IsSmall (world_36 m steps)
small_35 m steps = small_at (stored m) engine_26 ([]) (sent_0 ∷ sent_1 ∷ sent_2 ∷ sent_3 ∷ sent_4 ∷ sent_5 ∷ sent_6 ∷ sent_7 ∷ sent_8 ∷ sent_9 ∷ sent_10 ∷ sent_11 ∷ []) server_15 served_6 (reply_0 ∷ reply_1 ∷ reply_2 ∷ reply_3 ∷ reply_4 ∷ reply_5 ∷ reply_6 ∷ reply_7 ∷ []) steps (sent_0_read, (sent_1_read, (sent_2_read, (sent_3_read, (sent_4_read, (sent_5_read, (sent_6_read, (sent_7_read, (sent_8_read, (sent_9_read, (sent_10_read, (sent_11_read, tt)))))))))))) (reply_0_read, (reply_1_read, (reply_2_read, (reply_3_read, (reply_4_read, (reply_5_read, (reply_6_read, (reply_7_read, tt)))))))) (lit≤ tt) (lit≤ tt)

pub moves_36 : (m : Files) (steps : List Step)
    → Moves contents may_give count pace (world_36 m steps) (ServerTurns None 0 528) (world_37 m steps)
moves_36 m steps =
    server_moves (stored m) (stored m) engine_26 ([]) (sent_0 ∷ sent_1 ∷ sent_2 ∷ sent_3 ∷ sent_4 ∷ sent_5 ∷ sent_6 ∷ sent_7 ∷ sent_8 ∷ sent_9 ∷ sent_10 ∷ sent_11 ∷ []) server_15 server_16 served_6 served_6 (reply_0 ∷ reply_1 ∷ reply_2 ∷ reply_3 ∷ reply_4 ∷ reply_5 ∷ reply_6 ∷ reply_7 ∷ []) (reply_0 ∷ reply_1 ∷ reply_2 ∷ reply_3 ∷ reply_4 ∷ reply_5 ∷ reply_6 ∷ reply_7 ∷ reply_8 ∷ []) steps None 0 528 None (([]) ++ (((reply_8 ∷ []) ∷ []) ++ (([] ++ ([] ∷ [])) ++ []))) refl (turns_so (stored m) (stored m) None 0 528 server_15 server_15 server_16 server_16 served_6 served_6 1 ([]) ((reply_8 ∷ []) ∷ []) [] ([] ∷ []) [] refl ((read_session 2), (end_text, more_answered (stored m), record { host = refl; sessions = refl; out = refl })) refl refl refl refl) (reply_8_read, tt) refl

pub small_36 : (m : Files) (steps : List Step) → IsSmall (world_37 m steps)
small_36 m steps = small_at (stored m) engine_26 ([]) (sent_0 ∷ sent_1 ∷ sent_2 ∷ sent_3 ∷ sent_4 ∷ sent_5 ∷ sent_6 ∷ sent_7 ∷ sent_8 ∷ sent_9 ∷ sent_10 ∷ sent_11 ∷ []) server_16 served_6 (reply_0 ∷ reply_1 ∷ reply_2 ∷ reply_3 ∷ reply_4 ∷ reply_5 ∷ reply_6 ∷ reply_7 ∷ reply_8 ∷ []) steps (sent_0_read, (sent_1_read, (sent_2_read, (sent_3_read, (sent_4_read, (sent_5_read, (sent_6_read, (sent_7_read, (sent_8_read, (sent_9_read, (sent_10_read, (sent_11_read, tt)))))))))))) (reply_0_read, (reply_1_read, (reply_2_read, (reply_3_read, (reply_4_read, (reply_5_read, (reply_6_read, (reply_7_read, (reply_8_read, tt))))))))) (lit≤ tt) (lit≤ tt)

pub moves_37 : (m : Files) (steps : List Step)
    → Moves contents may_give count pace (world_37 m steps) (ServerTurns (Some 11) 0 529) (world_38 m steps)
moves_37 m steps =
    server_moves (stored m) (stored m) engine_26 ([]) (sent_0 ∷ sent_1 ∷ sent_2 ∷ sent_3 ∷ sent_4 ∷ sent_5 ∷ sent_6 ∷ sent_7 ∷ sent_8 ∷ sent_9 ∷ sent_10 ∷ sent_11 ∷ []) server_16 server_18 served_6 served_7 (reply_0 ∷ reply_1 ∷ reply_2 ∷ reply_3 ∷ reply_4 ∷ reply_5 ∷ reply_6 ∷ reply_7 ∷ reply_8 ∷ []) (reply_0 ∷ reply_1 ∷ reply_2 ∷ reply_3 ∷ reply_4 ∷ reply_5 ∷ reply_6 ∷ reply_7 ∷ reply_8 ∷ reply_9 ∷ []) steps (Some 11) 0 529 (Some (Ok (sent_11 ∷ []))) (([] ∷ []) ++ (((reply_9 ∷ []) ∷ []) ++ (([] ++ ([] ∷ [])) ++ []))) (ap Some sent_11_read) (turns_so (stored m) (stored m) (Some (Ok (sent_11 ∷ []))) 0 529 server_16 server_17 server_18 server_18 served_6 served_7 1 ([] ∷ []) ((reply_9 ∷ []) ∷ []) [] ([] ∷ []) [] refl (user_session, (closed_text, close_answered (stored m), record { host = refl; sessions = refl; out = refl })) refl refl refl refl) (reply_9_read, tt) refl

pub small_37 : (m : Files) (steps : List Step) → IsSmall (world_38 m steps)
small_37 m steps = small_at (stored m) engine_26 ([]) (sent_0 ∷ sent_1 ∷ sent_2 ∷ sent_3 ∷ sent_4 ∷ sent_5 ∷ sent_6 ∷ sent_7 ∷ sent_8 ∷ sent_9 ∷ sent_10 ∷ sent_11 ∷ []) server_18 served_7 (reply_0 ∷ reply_1 ∷ reply_2 ∷ reply_3 ∷ reply_4 ∷ reply_5 ∷ reply_6 ∷ reply_7 ∷ reply_8 ∷ reply_9 ∷ []) steps (sent_0_read, (sent_1_read, (sent_2_read, (sent_3_read, (sent_4_read, (sent_5_read, (sent_6_read, (sent_7_read, (sent_8_read, (sent_9_read, (sent_10_read, (sent_11_read, tt)))))))))))) (reply_0_read, (reply_1_read, (reply_2_read, (reply_3_read, (reply_4_read, (reply_5_read, (reply_6_read, (reply_7_read, (reply_8_read, (reply_9_read, tt)))))))))) (lit≤ tt) (lit≤ tt)

pub moves_38 : (m : Files) (steps : List Step)
    → Moves contents may_give count pace (world_38 m steps) (EngineSteps step_38 (Some 8)) (world_39 m (step_38 ∷ steps))
moves_38 m steps =
    engine_turns (stored m) engine_26 engine_27 ([]) (sent_0 ∷ sent_1 ∷ sent_2 ∷ sent_3 ∷ sent_4 ∷ sent_5 ∷ sent_6 ∷ sent_7 ∷ sent_8 ∷ sent_9 ∷ sent_10 ∷ sent_11 ∷ []) (sent_0 ∷ sent_1 ∷ sent_2 ∷ sent_3 ∷ sent_4 ∷ sent_5 ∷ sent_6 ∷ sent_7 ∷ sent_8 ∷ sent_9 ∷ sent_10 ∷ sent_11 ∷ []) server_18 served_7 (reply_0 ∷ reply_1 ∷ reply_2 ∷ reply_3 ∷ reply_4 ∷ reply_5 ∷ reply_6 ∷ reply_7 ∷ reply_8 ∷ reply_9 ∷ []) steps 530 (Some 8) (Some (Ok (reply_8 ∷ []))) ([] ∷ []) (530000000, tt, refl) refl (ap Some reply_8_read) refl tt refl

pub small_38 : (m : Files) (steps : List Step) → IsSmall (world_39 m (step_38 ∷ steps))
small_38 m steps = small_at (stored m) engine_27 ([]) (sent_0 ∷ sent_1 ∷ sent_2 ∷ sent_3 ∷ sent_4 ∷ sent_5 ∷ sent_6 ∷ sent_7 ∷ sent_8 ∷ sent_9 ∷ sent_10 ∷ sent_11 ∷ []) server_18 served_7 (reply_0 ∷ reply_1 ∷ reply_2 ∷ reply_3 ∷ reply_4 ∷ reply_5 ∷ reply_6 ∷ reply_7 ∷ reply_8 ∷ reply_9 ∷ []) (step_38 ∷ steps) (sent_0_read, (sent_1_read, (sent_2_read, (sent_3_read, (sent_4_read, (sent_5_read, (sent_6_read, (sent_7_read, (sent_8_read, (sent_9_read, (sent_10_read, (sent_11_read, tt)))))))))))) (reply_0_read, (reply_1_read, (reply_2_read, (reply_3_read, (reply_4_read, (reply_5_read, (reply_6_read, (reply_7_read, (reply_8_read, (reply_9_read, tt)))))))))) (lit≤ tt) (lit≤ tt)

pub moves_39 : (m : Files) (steps : List Step)
    → Moves contents may_give count pace (world_39 m steps) (EngineSteps step_39 (Some 7)) (world_40 m (step_39 ∷ steps))
moves_39 m steps =
    engine_turns (stored m) engine_27 engine_28 ([]) (sent_0 ∷ sent_1 ∷ sent_2 ∷ sent_3 ∷ sent_4 ∷ sent_5 ∷ sent_6 ∷ sent_7 ∷ sent_8 ∷ sent_9 ∷ sent_10 ∷ sent_11 ∷ []) (sent_0 ∷ sent_1 ∷ sent_2 ∷ sent_3 ∷ sent_4 ∷ sent_5 ∷ sent_6 ∷ sent_7 ∷ sent_8 ∷ sent_9 ∷ sent_10 ∷ sent_11 ∷ []) server_18 served_7 (reply_0 ∷ reply_1 ∷ reply_2 ∷ reply_3 ∷ reply_4 ∷ reply_5 ∷ reply_6 ∷ reply_7 ∷ reply_8 ∷ reply_9 ∷ []) steps 531 (Some 7) (Some (Ok (reply_7 ∷ []))) ([] ∷ []) (531000000, tt, refl) refl (ap Some reply_7_read) refl tt refl

pub small_39 : (m : Files) (steps : List Step) → IsSmall (world_40 m (step_39 ∷ steps))
small_39 m steps = small_at (stored m) engine_28 ([]) (sent_0 ∷ sent_1 ∷ sent_2 ∷ sent_3 ∷ sent_4 ∷ sent_5 ∷ sent_6 ∷ sent_7 ∷ sent_8 ∷ sent_9 ∷ sent_10 ∷ sent_11 ∷ []) server_18 served_7 (reply_0 ∷ reply_1 ∷ reply_2 ∷ reply_3 ∷ reply_4 ∷ reply_5 ∷ reply_6 ∷ reply_7 ∷ reply_8 ∷ reply_9 ∷ []) (step_39 ∷ steps) (sent_0_read, (sent_1_read, (sent_2_read, (sent_3_read, (sent_4_read, (sent_5_read, (sent_6_read, (sent_7_read, (sent_8_read, (sent_9_read, (sent_10_read, (sent_11_read, tt)))))))))))) (reply_0_read, (reply_1_read, (reply_2_read, (reply_3_read, (reply_4_read, (reply_5_read, (reply_6_read, (reply_7_read, (reply_8_read, (reply_9_read, tt)))))))))) (lit≤ tt) (lit≤ tt)

pub moves_40 : (m : Files) (steps : List Step)
    → Moves contents may_give count pace (world_40 m steps) (EngineSteps step_40 None) (world_41 m (step_40 ∷ steps))
moves_40 m steps =
    engine_reads (stored m) engine_28 engine_29 ([]) ([]) ([]) (sent_0 ∷ sent_1 ∷ sent_2 ∷ sent_3 ∷ sent_4 ∷ sent_5 ∷ sent_6 ∷ sent_7 ∷ sent_8 ∷ sent_9 ∷ sent_10 ∷ sent_11 ∷ []) server_18 served_7 (reply_0 ∷ reply_1 ∷ reply_2 ∷ reply_3 ∷ reply_4 ∷ reply_5 ∷ reply_6 ∷ reply_7 ∷ reply_8 ∷ reply_9 ∷ []) steps bytes_text refl refl

pub small_40 : (m : Files) (steps : List Step) → IsSmall (world_41 m (step_40 ∷ steps))
small_40 m steps = small_at (stored m) engine_29 ([]) (sent_0 ∷ sent_1 ∷ sent_2 ∷ sent_3 ∷ sent_4 ∷ sent_5 ∷ sent_6 ∷ sent_7 ∷ sent_8 ∷ sent_9 ∷ sent_10 ∷ sent_11 ∷ []) server_18 served_7 (reply_0 ∷ reply_1 ∷ reply_2 ∷ reply_3 ∷ reply_4 ∷ reply_5 ∷ reply_6 ∷ reply_7 ∷ reply_8 ∷ reply_9 ∷ []) (step_40 ∷ steps) (sent_0_read, (sent_1_read, (sent_2_read, (sent_3_read, (sent_4_read, (sent_5_read, (sent_6_read, (sent_7_read, (sent_8_read, (sent_9_read, (sent_10_read, (sent_11_read, tt)))))))))))) (reply_0_read, (reply_1_read, (reply_2_read, (reply_3_read, (reply_4_read, (reply_5_read, (reply_6_read, (reply_7_read, (reply_8_read, (reply_9_read, tt)))))))))) (lit≤ tt) (lit≤ tt)

pub moves_41 : (m : Files) (steps : List Step)
    → Moves contents may_give count pace (world_41 m steps) (EngineSteps step_41 None) (world_42 m (step_41 ∷ steps))
moves_41 m steps =
    engine_reads (stored m) engine_29 engine_30 ([]) ([]) ([]) (sent_0 ∷ sent_1 ∷ sent_2 ∷ sent_3 ∷ sent_4 ∷ sent_5 ∷ sent_6 ∷ sent_7 ∷ sent_8 ∷ sent_9 ∷ sent_10 ∷ sent_11 ∷ []) server_18 served_7 (reply_0 ∷ reply_1 ∷ reply_2 ∷ reply_3 ∷ reply_4 ∷ reply_5 ∷ reply_6 ∷ reply_7 ∷ reply_8 ∷ reply_9 ∷ []) steps end_text refl refl

pub small_41 : (m : Files) (steps : List Step) → IsSmall (world_42 m (step_41 ∷ steps))
small_41 m steps = small_at (stored m) engine_30 ([]) (sent_0 ∷ sent_1 ∷ sent_2 ∷ sent_3 ∷ sent_4 ∷ sent_5 ∷ sent_6 ∷ sent_7 ∷ sent_8 ∷ sent_9 ∷ sent_10 ∷ sent_11 ∷ []) server_18 served_7 (reply_0 ∷ reply_1 ∷ reply_2 ∷ reply_3 ∷ reply_4 ∷ reply_5 ∷ reply_6 ∷ reply_7 ∷ reply_8 ∷ reply_9 ∷ []) (step_41 ∷ steps) (sent_0_read, (sent_1_read, (sent_2_read, (sent_3_read, (sent_4_read, (sent_5_read, (sent_6_read, (sent_7_read, (sent_8_read, (sent_9_read, (sent_10_read, (sent_11_read, tt)))))))))))) (reply_0_read, (reply_1_read, (reply_2_read, (reply_3_read, (reply_4_read, (reply_5_read, (reply_6_read, (reply_7_read, (reply_8_read, (reply_9_read, tt)))))))))) (lit≤ tt) (lit≤ tt)

pub moves_42 : (m : Files) (steps : List Step)
    → Moves contents may_give count pace (world_42 m steps) (EngineSteps step_42 (Some 9)) (world_43 m (step_42 ∷ steps))
moves_42 m steps =
    engine_turns (stored m) engine_30 engine_31 ([]) (sent_0 ∷ sent_1 ∷ sent_2 ∷ sent_3 ∷ sent_4 ∷ sent_5 ∷ sent_6 ∷ sent_7 ∷ sent_8 ∷ sent_9 ∷ sent_10 ∷ sent_11 ∷ []) (sent_0 ∷ sent_1 ∷ sent_2 ∷ sent_3 ∷ sent_4 ∷ sent_5 ∷ sent_6 ∷ sent_7 ∷ sent_8 ∷ sent_9 ∷ sent_10 ∷ sent_11 ∷ []) server_18 served_7 (reply_0 ∷ reply_1 ∷ reply_2 ∷ reply_3 ∷ reply_4 ∷ reply_5 ∷ reply_6 ∷ reply_7 ∷ reply_8 ∷ reply_9 ∷ []) steps 532 (Some 9) (Some (Ok (reply_9 ∷ []))) ([] ∷ []) (532000000, tt, refl) refl (ap Some reply_9_read) refl tt refl

pub small_42 : (m : Files) (steps : List Step) → IsSmall (world_43 m (step_42 ∷ steps))
small_42 m steps = small_at (stored m) engine_31 ([]) (sent_0 ∷ sent_1 ∷ sent_2 ∷ sent_3 ∷ sent_4 ∷ sent_5 ∷ sent_6 ∷ sent_7 ∷ sent_8 ∷ sent_9 ∷ sent_10 ∷ sent_11 ∷ []) server_18 served_7 (reply_0 ∷ reply_1 ∷ reply_2 ∷ reply_3 ∷ reply_4 ∷ reply_5 ∷ reply_6 ∷ reply_7 ∷ reply_8 ∷ reply_9 ∷ []) (step_42 ∷ steps) (sent_0_read, (sent_1_read, (sent_2_read, (sent_3_read, (sent_4_read, (sent_5_read, (sent_6_read, (sent_7_read, (sent_8_read, (sent_9_read, (sent_10_read, (sent_11_read, tt)))))))))))) (reply_0_read, (reply_1_read, (reply_2_read, (reply_3_read, (reply_4_read, (reply_5_read, (reply_6_read, (reply_7_read, (reply_8_read, (reply_9_read, tt)))))))))) (lit≤ tt) (lit≤ tt)

pub moves_43 : (m : Files) (steps : List Step)
    → Moves contents may_give count pace (world_43 m steps) (EngineSteps step_43 None) (world_44 m (step_43 ∷ steps))
moves_43 m steps =
    engine_reads (stored m) engine_31 engine_32 ([]) ([]) ([]) (sent_0 ∷ sent_1 ∷ sent_2 ∷ sent_3 ∷ sent_4 ∷ sent_5 ∷ sent_6 ∷ sent_7 ∷ sent_8 ∷ sent_9 ∷ sent_10 ∷ sent_11 ∷ []) server_18 served_7 (reply_0 ∷ reply_1 ∷ reply_2 ∷ reply_3 ∷ reply_4 ∷ reply_5 ∷ reply_6 ∷ reply_7 ∷ reply_8 ∷ reply_9 ∷ []) steps closed_text refl refl

pub small_43 : (m : Files) (steps : List Step) → IsSmall (world_44 m (step_43 ∷ steps))
small_43 m steps = small_at (stored m) engine_32 ([]) (sent_0 ∷ sent_1 ∷ sent_2 ∷ sent_3 ∷ sent_4 ∷ sent_5 ∷ sent_6 ∷ sent_7 ∷ sent_8 ∷ sent_9 ∷ sent_10 ∷ sent_11 ∷ []) server_18 served_7 (reply_0 ∷ reply_1 ∷ reply_2 ∷ reply_3 ∷ reply_4 ∷ reply_5 ∷ reply_6 ∷ reply_7 ∷ reply_8 ∷ reply_9 ∷ []) (step_43 ∷ steps) (sent_0_read, (sent_1_read, (sent_2_read, (sent_3_read, (sent_4_read, (sent_5_read, (sent_6_read, (sent_7_read, (sent_8_read, (sent_9_read, (sent_10_read, (sent_11_read, tt)))))))))))) (reply_0_read, (reply_1_read, (reply_2_read, (reply_3_read, (reply_4_read, (reply_5_read, (reply_6_read, (reply_7_read, (reply_8_read, (reply_9_read, tt)))))))))) (lit≤ tt) (lit≤ tt)
