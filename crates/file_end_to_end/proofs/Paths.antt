-- The lines of a run, one behind the other.
use Rattle.std.proofs.Common.{true, List, [], ◌∷◌, ◌++◌, Some, None, refl, sym, ap, subst}
use Rattle.chaos_file.specs.Store.{Files}
use Rattle.file_client.specs.Talk.{Step, Writes as EngineWrites, Reads as EngineReads, command_item}
use Rattle.file_copy.specs.Copy.{reply_of}
use Rattle.file_copy.specs.Ends.{login_command, login_reply, tids_from}
use Rattle.file_copy.specs.Row.{file_handle}
use Rattle.chaos_file.specs.Answer.{AtEnd, Closed, Given, Opened, Wrote}
use Rattle.chaos_file.specs.Command.{Close, OpenRead, OpenWrite, Read, Write}
use Rattle.chaos_file.specs.Spelling.{spelling_of}
use Rattle.file_end_to_end.specs.FileGot.{Line, user, Writes, Reads, Turns, Serves, bytes, getting, lines, opening, path, putting}
use Rattle.file_end_to_end.specs.World.{World, EngineSteps, ServerTurns}
use Rattle.file_end_to_end.proofs.Going.{Going, Path}
use Rattle.file_end_to_end.proofs.Moving.{asks_of}
use Rattle.file_end_to_end.proofs.Spelled.{bytes_is, close_is, closed_is, end_is, login_is, logged_is, more_is, open_is, opened_is, read_is, write_close_is, write_closed_is, write_is, write_open_is, write_opened_is, wrote_is}
use Rattle.file_end_to_end.proofs.States.{reply_0_read, reply_1_read, reply_3_read, reply_4_read, reply_5_read, reply_6_read, reply_7_read, reply_8_read, reply_9_read, sent_0, sent_0_read, sent_1, sent_10, sent_10_read, sent_11, sent_11_read, sent_2, sent_2_read, sent_3, sent_4, sent_4_read, sent_5, sent_5_read, sent_6, sent_7, sent_7_read, sent_8, sent_8_read, sent_9, sent_9_read, step_0, step_10, step_12, step_13, step_16, step_17, step_18, step_19, step_2, step_20, step_21, step_23, step_24, step_25, step_26, step_28, step_29, step_3, step_30, step_31, step_32, step_33, step_38, step_39, step_4, step_40, step_41, step_42, step_43, step_5, step_6, step_9, world_0, world_1, world_10, world_11, world_12, world_13, world_14, world_15, world_16, world_17, world_18, world_19, world_2, world_20, world_21, world_22, world_23, world_24, world_25, world_26, world_27, world_28, world_29, world_3, world_30, world_31, world_32, world_33, world_34, world_35, world_36, world_37, world_38, world_39, world_4, world_40, world_41, world_42, world_43, world_44, world_5, world_6, world_7, world_8, world_9}
use Rattle.file_end_to_end.proofs.Young.{IsOne}
use Rattle.file_end_to_end.proofs.Lines.{moves_0, moves_1, moves_2, moves_3, moves_4, moves_5, moves_6, moves_7, moves_8, moves_9, moves_10, moves_11, moves_12, moves_13, moves_14, moves_15, moves_16, moves_17, moves_18, moves_19, moves_20, moves_21, moves_22, moves_23, moves_24, moves_25, moves_26, moves_27, moves_28, moves_29, moves_30, moves_31, moves_32, moves_33, moves_34, moves_35, moves_36, moves_37, moves_38, moves_39, moves_40, moves_41, moves_42, moves_43, small_0, small_1, small_2, small_3, small_4, small_5, small_6, small_7, small_8, small_9, small_10, small_11, small_12, small_13, small_14, small_15, small_16, small_17, small_18, small_19, small_20, small_21, small_22, small_23, small_24, small_25, small_26, small_27, small_28, small_29, small_30, small_31, small_32, small_33, small_34, small_35, small_36, small_37, small_38, small_39, small_40, small_41, small_42, small_43}

going_0 : (m : Files) (steps : List Step) → Going (world_0 m steps) (Turns 2 None) (world_1 m (step_0 ∷ steps))
going_0 m steps = record {
  move = EngineSteps step_0 None;
  is_line = (asks_of (sent_0 ∷ []) ([]), refl);
  moves = moves_0 m steps;
  timely = refl;
  one = tt;
  small = small_0 m steps;
}

going_1 : (m : Files) (steps : List Step) → Going (world_1 m steps) (Serves (Some 0) 300 3) (world_2 m steps)
going_1 m steps = record {
  move = ServerTurns (Some 0) 300 3;
  is_line = refl;
  moves = moves_1 m steps;
  timely = refl;
  one = subst IsOne (sym (ap Some sent_0_read)) tt;
  small = small_1 m steps;
}

going_2 : (m : Files) (steps : List Step) → Going (world_2 m steps) (Turns 4 (Some 0)) (world_3 m (step_2 ∷ steps))
going_2 m steps = record {
  move = EngineSteps step_2 (Some 0);
  is_line = (asks_of ([]) ((sent_1 ∷ []) ∷ []), refl);
  moves = moves_2 m steps;
  timely = refl;
  one = subst IsOne (sym (ap Some reply_0_read)) tt;
  small = small_2 m steps;
}

going_3 : (m : Files) (steps : List Step) → Going (world_3 m steps) (Writes (login_command user) 5) (world_4 m (step_3 ∷ steps))
going_3 m steps = record {
  move = EngineSteps step_3 None;
  is_line = ap (λ l. EngineSteps (EngineWrites (command_item l) 5 true) None) (sym login_is);
  moves = moves_3 m steps;
  timely = refl;
  one = tt;
  small = small_3 m steps;
}

going_4 : (m : Files) (steps : List Step) → Going (world_4 m steps) (Writes (spelling_of (tids_from 1 0) file_handle (OpenWrite path)) 5) (world_5 m (step_4 ∷ steps))
going_4 m steps = record {
  move = EngineSteps step_4 None;
  is_line = ap (λ l. EngineSteps (EngineWrites (command_item l) 5 true) None) (sym write_open_is);
  moves = moves_4 m steps;
  timely = refl;
  one = tt;
  small = small_4 m steps;
}

going_5 : (m : Files) (steps : List Step) → Going (world_5 m steps) (Writes (spelling_of (tids_from 1 1) file_handle (Write bytes)) 5) (world_6 m (step_5 ∷ steps))
going_5 m steps = record {
  move = EngineSteps step_5 None;
  is_line = ap (λ l. EngineSteps (EngineWrites (command_item l) 5 true) None) (sym write_is);
  moves = moves_5 m steps;
  timely = refl;
  one = tt;
  small = small_5 m steps;
}

going_6 : (m : Files) (steps : List Step) → Going (world_6 m steps) (Turns 6 None) (world_7 m (step_6 ∷ steps))
going_6 m steps = record {
  move = EngineSteps step_6 None;
  is_line = (asks_of (sent_2 ∷ sent_3 ∷ sent_4 ∷ []) ([]), refl);
  moves = moves_6 m steps;
  timely = refl;
  one = tt;
  small = small_6 m steps;
}

going_7 : (m : Files) (steps : List Step) → Going (world_7 m steps) (Serves (Some 2) 0 7) (world_8 m steps)
going_7 m steps = record {
  move = ServerTurns (Some 2) 0 7;
  is_line = refl;
  moves = moves_7 m steps;
  timely = refl;
  one = subst IsOne (sym (ap Some sent_2_read)) tt;
  small = small_7 m steps;
}

going_8 : (m : Files) (steps : List Step) → Going (world_8 m steps) (Serves (Some 2) 0 8) (world_9 m steps)
going_8 m steps = record {
  move = ServerTurns (Some 2) 0 8;
  is_line = refl;
  moves = moves_8 m steps;
  timely = refl;
  one = subst IsOne (sym (ap Some sent_2_read)) tt;
  small = small_8 m steps;
}

going_9 : (m : Files) (steps : List Step) → Going (world_9 m steps) (Turns 9 (Some 1)) (world_10 m (step_9 ∷ steps))
going_9 m steps = record {
  move = EngineSteps step_9 (Some 1);
  is_line = (asks_of ([]) ([] ∷ []), refl);
  moves = moves_9 m steps;
  timely = refl;
  one = subst IsOne (sym (ap Some reply_1_read)) tt;
  small = small_9 m steps;
}

going_10 : (m : Files) (steps : List Step) → Going (world_10 m steps) (Reads (login_reply user)) (world_11 m (step_10 ∷ steps))
going_10 m steps = record {
  move = EngineSteps step_10 None;
  is_line = ap (λ l. EngineSteps (EngineReads (Some l)) None) (sym logged_is);
  moves = moves_10 m steps;
  timely = refl;
  one = tt;
  small = small_10 m steps;
}

going_11 : (m : Files) (steps : List Step) → Going (world_11 m steps) (Serves (Some 4) 0 10) (world_12 m steps)
going_11 m steps = record {
  move = ServerTurns (Some 4) 0 10;
  is_line = refl;
  moves = moves_11 m steps;
  timely = refl;
  one = subst IsOne (sym (ap Some sent_4_read)) tt;
  small = small_11 m steps;
}

going_12 : (m : Files) (steps : List Step) → Going (world_12 m steps) (Turns 11 None) (world_13 m (step_12 ∷ steps))
going_12 m steps = record {
  move = EngineSteps step_12 None;
  is_line = (asks_of ([]) ([]), refl);
  moves = moves_12 m steps;
  timely = refl;
  one = tt;
  small = small_12 m steps;
}

going_13 : (m : Files) (steps : List Step) → Going (world_13 m steps) (Turns 511 None) (world_14 m (step_13 ∷ steps))
going_13 m steps = record {
  move = EngineSteps step_13 None;
  is_line = (asks_of ([]) ((sent_5 ∷ []) ∷ (sent_6 ∷ []) ∷ []), refl);
  moves = moves_13 m steps;
  timely = refl;
  one = tt;
  small = small_13 m steps;
}

going_14 : (m : Files) (steps : List Step) → Going (world_14 m steps) (Serves (Some 5) 0 512) (world_15 m steps)
going_14 m steps = record {
  move = ServerTurns (Some 5) 0 512;
  is_line = refl;
  moves = moves_14 m steps;
  timely = refl;
  one = subst IsOne (sym (ap Some sent_5_read)) tt;
  small = small_14 m steps;
}

going_15 : (m : Files) (steps : List Step) → Going (world_15 m steps) (Serves None 0 513) (world_16 m steps)
going_15 m steps = record {
  move = ServerTurns None 0 513;
  is_line = refl;
  moves = moves_15 m steps;
  timely = refl;
  one = tt;
  small = small_15 m steps;
}

going_16 : (m : Files) (steps : List Step) → Going (world_16 m steps) (Turns 514 (Some 4)) (world_17 m (step_16 ∷ steps))
going_16 m steps = record {
  move = EngineSteps step_16 (Some 4);
  is_line = (asks_of ([]) ([] ∷ []), refl);
  moves = moves_16 m steps;
  timely = refl;
  one = subst IsOne (sym (ap Some reply_4_read)) tt;
  small = small_16 m steps;
}

going_17 : (m : Files) (steps : List Step) → Going (world_17 m steps) (Turns 515 (Some 3)) (world_18 m (step_17 ∷ steps))
going_17 m steps = record {
  move = EngineSteps step_17 (Some 3);
  is_line = (asks_of ([]) ([] ∷ []), refl);
  moves = moves_17 m steps;
  timely = refl;
  one = subst IsOne (sym (ap Some reply_3_read)) tt;
  small = small_17 m steps;
}

going_18 : (m : Files) (steps : List Step) → Going (world_18 m steps) (Reads (reply_of (tids_from 1 0) file_handle (Opened 0))) (world_19 m (step_18 ∷ steps))
going_18 m steps = record {
  move = EngineSteps step_18 None;
  is_line = ap (λ l. EngineSteps (EngineReads (Some l)) None) (sym write_opened_is);
  moves = moves_18 m steps;
  timely = refl;
  one = tt;
  small = small_18 m steps;
}

going_19 : (m : Files) (steps : List Step) → Going (world_19 m steps) (Reads (reply_of (tids_from 1 1) file_handle (Wrote 2))) (world_20 m (step_19 ∷ steps))
going_19 m steps = record {
  move = EngineSteps step_19 None;
  is_line = ap (λ l. EngineSteps (EngineReads (Some l)) None) (sym wrote_is);
  moves = moves_19 m steps;
  timely = refl;
  one = tt;
  small = small_19 m steps;
}

going_20 : (m : Files) (steps : List Step) → Going (world_20 m steps) (Writes (spelling_of (tids_from 1 2) file_handle Close) 516) (world_21 m (step_20 ∷ steps))
going_20 m steps = record {
  move = EngineSteps step_20 None;
  is_line = ap (λ l. EngineSteps (EngineWrites (command_item l) 516 true) None) (sym write_close_is);
  moves = moves_20 m steps;
  timely = refl;
  one = tt;
  small = small_20 m steps;
}

going_21 : (m : Files) (steps : List Step) → Going (world_21 m steps) (Turns 517 None) (world_22 m (step_21 ∷ steps))
going_21 m steps = record {
  move = EngineSteps step_21 None;
  is_line = (asks_of (sent_7 ∷ []) ([]), refl);
  moves = moves_21 m steps;
  timely = refl;
  one = tt;
  small = small_21 m steps;
}

going_22 : (m : Files) (steps : List Step) → Going (world_22 m steps) (Serves (Some 7) 0 518) (world_23 m steps)
going_22 m steps = record {
  move = ServerTurns (Some 7) 0 518;
  is_line = refl;
  moves = moves_22 m steps;
  timely = refl;
  one = subst IsOne (sym (ap Some sent_7_read)) tt;
  small = small_22 m steps;
}

going_23 : (m : Files) (steps : List Step) → Going (world_23 m steps) (Turns 519 (Some 5)) (world_24 m (step_23 ∷ steps))
going_23 m steps = record {
  move = EngineSteps step_23 (Some 5);
  is_line = (asks_of ([]) ([] ∷ []), refl);
  moves = moves_23 m steps;
  timely = refl;
  one = subst IsOne (sym (ap Some reply_5_read)) tt;
  small = small_23 m steps;
}

going_24 : (m : Files) (steps : List Step) → Going (world_24 m steps) (Reads (reply_of (tids_from 1 2) file_handle (Closed 2))) (world_25 m (step_24 ∷ steps))
going_24 m steps = record {
  move = EngineSteps step_24 None;
  is_line = ap (λ l. EngineSteps (EngineReads (Some l)) None) (sym write_closed_is);
  moves = moves_24 m steps;
  timely = refl;
  one = tt;
  small = small_24 m steps;
}

going_25 : (m : Files) (steps : List Step) → Going (world_25 m steps) (Writes (spelling_of (tids_from 4 0) file_handle (OpenRead path)) 520) (world_26 m (step_25 ∷ steps))
going_25 m steps = record {
  move = EngineSteps step_25 None;
  is_line = ap (λ l. EngineSteps (EngineWrites (command_item l) 520 true) None) (sym open_is);
  moves = moves_25 m steps;
  timely = refl;
  one = tt;
  small = small_25 m steps;
}

going_26 : (m : Files) (steps : List Step) → Going (world_26 m steps) (Turns 521 None) (world_27 m (step_26 ∷ steps))
going_26 m steps = record {
  move = EngineSteps step_26 None;
  is_line = (asks_of (sent_8 ∷ []) ([]), refl);
  moves = moves_26 m steps;
  timely = refl;
  one = tt;
  small = small_26 m steps;
}

going_27 : (m : Files) (steps : List Step) → Going (world_27 m steps) (Serves (Some 8) 0 522) (world_28 m steps)
going_27 m steps = record {
  move = ServerTurns (Some 8) 0 522;
  is_line = refl;
  moves = moves_27 m steps;
  timely = refl;
  one = subst IsOne (sym (ap Some sent_8_read)) tt;
  small = small_27 m steps;
}

going_28 : (m : Files) (steps : List Step) → Going (world_28 m steps) (Turns 523 (Some 6)) (world_29 m (step_28 ∷ steps))
going_28 m steps = record {
  move = EngineSteps step_28 (Some 6);
  is_line = (asks_of ([]) ([] ∷ []), refl);
  moves = moves_28 m steps;
  timely = refl;
  one = subst IsOne (sym (ap Some reply_6_read)) tt;
  small = small_28 m steps;
}

going_29 : (m : Files) (steps : List Step) → Going (world_29 m steps) (Reads (reply_of (tids_from 4 0) file_handle (Opened 2))) (world_30 m (step_29 ∷ steps))
going_29 m steps = record {
  move = EngineSteps step_29 None;
  is_line = ap (λ l. EngineSteps (EngineReads (Some l)) None) (sym opened_is);
  moves = moves_29 m steps;
  timely = refl;
  one = tt;
  small = small_29 m steps;
}

going_30 : (m : Files) (steps : List Step) → Going (world_30 m steps) (Writes (spelling_of (tids_from 4 1) file_handle Read) 524) (world_31 m (step_30 ∷ steps))
going_30 m steps = record {
  move = EngineSteps step_30 None;
  is_line = ap (λ l. EngineSteps (EngineWrites (command_item l) 524 true) None) (sym read_is);
  moves = moves_30 m steps;
  timely = refl;
  one = tt;
  small = small_30 m steps;
}

going_31 : (m : Files) (steps : List Step) → Going (world_31 m steps) (Writes (spelling_of (tids_from 4 2) file_handle Read) 524) (world_32 m (step_31 ∷ steps))
going_31 m steps = record {
  move = EngineSteps step_31 None;
  is_line = ap (λ l. EngineSteps (EngineWrites (command_item l) 524 true) None) (sym more_is);
  moves = moves_31 m steps;
  timely = refl;
  one = tt;
  small = small_31 m steps;
}

going_32 : (m : Files) (steps : List Step) → Going (world_32 m steps) (Writes (spelling_of (tids_from 4 3) file_handle Close) 524) (world_33 m (step_32 ∷ steps))
going_32 m steps = record {
  move = EngineSteps step_32 None;
  is_line = ap (λ l. EngineSteps (EngineWrites (command_item l) 524 true) None) (sym close_is);
  moves = moves_32 m steps;
  timely = refl;
  one = tt;
  small = small_32 m steps;
}

going_33 : (m : Files) (steps : List Step) → Going (world_33 m steps) (Turns 525 None) (world_34 m (step_33 ∷ steps))
going_33 m steps = record {
  move = EngineSteps step_33 None;
  is_line = (asks_of (sent_9 ∷ sent_10 ∷ sent_11 ∷ []) ([]), refl);
  moves = moves_33 m steps;
  timely = refl;
  one = tt;
  small = small_33 m steps;
}

going_34 : (m : Files) (steps : List Step) → Going (world_34 m steps) (Serves (Some 10) 0 526) (world_35 m steps)
going_34 m steps = record {
  move = ServerTurns (Some 10) 0 526;
  is_line = refl;
  moves = moves_34 m steps;
  timely = refl;
  one = subst IsOne (sym (ap Some sent_10_read)) tt;
  small = small_34 m steps;
}

going_35 : (m : Files) (steps : List Step) → Going (world_35 m steps) (Serves (Some 9) 0 527) (world_36 m steps)
going_35 m steps = record {
  move = ServerTurns (Some 9) 0 527;
  is_line = refl;
  moves = moves_35 m steps;
  timely = refl;
  one = subst IsOne (sym (ap Some sent_9_read)) tt;
  small = small_35 m steps;
}

going_36 : (m : Files) (steps : List Step) → Going (world_36 m steps) (Serves None 0 528) (world_37 m steps)
going_36 m steps = record {
  move = ServerTurns None 0 528;
  is_line = refl;
  moves = moves_36 m steps;
  timely = refl;
  one = tt;
  small = small_36 m steps;
}

going_37 : (m : Files) (steps : List Step) → Going (world_37 m steps) (Serves (Some 11) 0 529) (world_38 m steps)
going_37 m steps = record {
  move = ServerTurns (Some 11) 0 529;
  is_line = refl;
  moves = moves_37 m steps;
  timely = refl;
  one = subst IsOne (sym (ap Some sent_11_read)) tt;
  small = small_37 m steps;
}

going_38 : (m : Files) (steps : List Step) → Going (world_38 m steps) (Turns 530 (Some 8)) (world_39 m (step_38 ∷ steps))
going_38 m steps = record {
  move = EngineSteps step_38 (Some 8);
  is_line = (asks_of ([]) ([] ∷ []), refl);
  moves = moves_38 m steps;
  timely = refl;
  one = subst IsOne (sym (ap Some reply_8_read)) tt;
  small = small_38 m steps;
}

going_39 : (m : Files) (steps : List Step) → Going (world_39 m steps) (Turns 531 (Some 7)) (world_40 m (step_39 ∷ steps))
going_39 m steps = record {
  move = EngineSteps step_39 (Some 7);
  is_line = (asks_of ([]) ([] ∷ []), refl);
  moves = moves_39 m steps;
  timely = refl;
  one = subst IsOne (sym (ap Some reply_7_read)) tt;
  small = small_39 m steps;
}

going_40 : (m : Files) (steps : List Step) → Going (world_40 m steps) (Reads (reply_of (tids_from 4 1) file_handle (Given bytes))) (world_41 m (step_40 ∷ steps))
going_40 m steps = record {
  move = EngineSteps step_40 None;
  is_line = ap (λ l. EngineSteps (EngineReads (Some l)) None) (sym bytes_is);
  moves = moves_40 m steps;
  timely = refl;
  one = tt;
  small = small_40 m steps;
}

going_41 : (m : Files) (steps : List Step) → Going (world_41 m steps) (Reads (reply_of (tids_from 4 2) file_handle AtEnd)) (world_42 m (step_41 ∷ steps))
going_41 m steps = record {
  move = EngineSteps step_41 None;
  is_line = ap (λ l. EngineSteps (EngineReads (Some l)) None) (sym end_is);
  moves = moves_41 m steps;
  timely = refl;
  one = tt;
  small = small_41 m steps;
}

going_42 : (m : Files) (steps : List Step) → Going (world_42 m steps) (Turns 532 (Some 9)) (world_43 m (step_42 ∷ steps))
going_42 m steps = record {
  move = EngineSteps step_42 (Some 9);
  is_line = (asks_of ([]) ([] ∷ []), refl);
  moves = moves_42 m steps;
  timely = refl;
  one = subst IsOne (sym (ap Some reply_9_read)) tt;
  small = small_42 m steps;
}

going_43 : (m : Files) (steps : List Step) → Going (world_43 m steps) (Reads (reply_of (tids_from 4 3) file_handle (Closed 2))) (world_44 m (step_43 ∷ steps))
going_43 m steps = record {
  move = EngineSteps step_43 None;
  is_line = ap (λ l. EngineSteps (EngineReads (Some l)) None) (sym closed_is);
  moves = moves_43 m steps;
  timely = refl;
  one = tt;
  small = small_43 m steps;
}

abbrev pub opening_steps : List Step
opening_steps = step_2 ∷ step_0 ∷ []

pub opening_path : (m : Files) (steps : List Step) → Path (world_0 m steps) opening (world_3 m (opening_steps ++ steps))
opening_path m steps = (
  world_1 m (step_0 ∷ steps),
  going_0 m steps,
  (
    world_2 m (step_0 ∷ steps),
    going_1 m (step_0 ∷ steps),
    (
      world_3 m (step_2 ∷ step_0 ∷ steps),
      going_2 m (step_0 ∷ steps),
      refl,
    ),
  ),
)

abbrev pub putting_steps : List Step
putting_steps = step_24 ∷ step_23 ∷ step_21 ∷ step_20 ∷ step_19 ∷ step_18 ∷ step_17 ∷ step_16 ∷ step_13 ∷ step_12 ∷ step_10 ∷ step_9 ∷ step_6 ∷ step_5 ∷ step_4 ∷ step_3 ∷ []

pub putting_path : (m : Files) (steps : List Step) → Path (world_3 m steps) putting (world_25 m (putting_steps ++ steps))
putting_path m steps = (
  world_4 m (step_3 ∷ steps),
  going_3 m steps,
  (
    world_5 m (step_4 ∷ step_3 ∷ steps),
    going_4 m (step_3 ∷ steps),
    (
      world_6 m (step_5 ∷ step_4 ∷ step_3 ∷ steps),
      going_5 m (step_4 ∷ step_3 ∷ steps),
      (
        world_7 m (step_6 ∷ step_5 ∷ step_4 ∷ step_3 ∷ steps),
        going_6 m (step_5 ∷ step_4 ∷ step_3 ∷ steps),
        (
          world_8 m (step_6 ∷ step_5 ∷ step_4 ∷ step_3 ∷ steps),
          going_7 m (step_6 ∷ step_5 ∷ step_4 ∷ step_3 ∷ steps),
          (
            world_9 m (step_6 ∷ step_5 ∷ step_4 ∷ step_3 ∷ steps),
            going_8 m (step_6 ∷ step_5 ∷ step_4 ∷ step_3 ∷ steps),
            (
              world_10 m (step_9 ∷ step_6 ∷ step_5 ∷ step_4 ∷ step_3 ∷ steps),
              going_9 m (step_6 ∷ step_5 ∷ step_4 ∷ step_3 ∷ steps),
              (
                world_11 m (step_10 ∷ step_9 ∷ step_6 ∷ step_5 ∷ step_4 ∷ step_3 ∷ steps),
                going_10 m (step_9 ∷ step_6 ∷ step_5 ∷ step_4 ∷ step_3 ∷ steps),
                (
                  world_12 m (step_10 ∷ step_9 ∷ step_6 ∷ step_5 ∷ step_4 ∷ step_3 ∷ steps),
                  going_11 m (step_10 ∷ step_9 ∷ step_6 ∷ step_5 ∷ step_4 ∷ step_3 ∷ steps),
                  (
                    world_13 m (step_12 ∷ step_10 ∷ step_9 ∷ step_6 ∷ step_5 ∷ step_4 ∷ step_3 ∷ steps),
                    going_12 m (step_10 ∷ step_9 ∷ step_6 ∷ step_5 ∷ step_4 ∷ step_3 ∷ steps),
                    (
                      world_14 m (step_13 ∷ step_12 ∷ step_10 ∷ step_9 ∷ step_6 ∷ step_5 ∷ step_4 ∷ step_3 ∷ steps),
                      going_13 m (step_12 ∷ step_10 ∷ step_9 ∷ step_6 ∷ step_5 ∷ step_4 ∷ step_3 ∷ steps),
                      (
                        world_15 m (step_13 ∷ step_12 ∷ step_10 ∷ step_9 ∷ step_6 ∷ step_5 ∷ step_4 ∷ step_3 ∷ steps),
                        going_14 m (step_13 ∷ step_12 ∷ step_10 ∷ step_9 ∷ step_6 ∷ step_5 ∷ step_4 ∷ step_3 ∷ steps),
                        (
                          world_16 m (step_13 ∷ step_12 ∷ step_10 ∷ step_9 ∷ step_6 ∷ step_5 ∷ step_4 ∷ step_3 ∷ steps),
                          going_15 m (step_13 ∷ step_12 ∷ step_10 ∷ step_9 ∷ step_6 ∷ step_5 ∷ step_4 ∷ step_3 ∷ steps),
                          (
                            world_17 m (step_16 ∷ step_13 ∷ step_12 ∷ step_10 ∷ step_9 ∷ step_6 ∷ step_5 ∷ step_4 ∷ step_3 ∷ steps),
                            going_16 m (step_13 ∷ step_12 ∷ step_10 ∷ step_9 ∷ step_6 ∷ step_5 ∷ step_4 ∷ step_3 ∷ steps),
                            (
                              world_18 m (step_17 ∷ step_16 ∷ step_13 ∷ step_12 ∷ step_10 ∷ step_9 ∷ step_6 ∷ step_5 ∷ step_4 ∷ step_3 ∷ steps),
                              going_17 m (step_16 ∷ step_13 ∷ step_12 ∷ step_10 ∷ step_9 ∷ step_6 ∷ step_5 ∷ step_4 ∷ step_3 ∷ steps),
                              (
                                world_19 m (step_18 ∷ step_17 ∷ step_16 ∷ step_13 ∷ step_12 ∷ step_10 ∷ step_9 ∷ step_6 ∷ step_5 ∷ step_4 ∷ step_3 ∷ steps),
                                going_18 m (step_17 ∷ step_16 ∷ step_13 ∷ step_12 ∷ step_10 ∷ step_9 ∷ step_6 ∷ step_5 ∷ step_4 ∷ step_3 ∷ steps),
                                (
                                  world_20 m (step_19 ∷ step_18 ∷ step_17 ∷ step_16 ∷ step_13 ∷ step_12 ∷ step_10 ∷ step_9 ∷ step_6 ∷ step_5 ∷ step_4 ∷ step_3 ∷ steps),
                                  going_19 m (step_18 ∷ step_17 ∷ step_16 ∷ step_13 ∷ step_12 ∷ step_10 ∷ step_9 ∷ step_6 ∷ step_5 ∷ step_4 ∷ step_3 ∷ steps),
                                  (
                                    world_21 m (step_20 ∷ step_19 ∷ step_18 ∷ step_17 ∷ step_16 ∷ step_13 ∷ step_12 ∷ step_10 ∷ step_9 ∷ step_6 ∷ step_5 ∷ step_4 ∷ step_3 ∷ steps),
                                    going_20 m (step_19 ∷ step_18 ∷ step_17 ∷ step_16 ∷ step_13 ∷ step_12 ∷ step_10 ∷ step_9 ∷ step_6 ∷ step_5 ∷ step_4 ∷ step_3 ∷ steps),
                                    (
                                      world_22 m (step_21 ∷ step_20 ∷ step_19 ∷ step_18 ∷ step_17 ∷ step_16 ∷ step_13 ∷ step_12 ∷ step_10 ∷ step_9 ∷ step_6 ∷ step_5 ∷ step_4 ∷ step_3 ∷ steps),
                                      going_21 m (step_20 ∷ step_19 ∷ step_18 ∷ step_17 ∷ step_16 ∷ step_13 ∷ step_12 ∷ step_10 ∷ step_9 ∷ step_6 ∷ step_5 ∷ step_4 ∷ step_3 ∷ steps),
                                      (
                                        world_23 m (step_21 ∷ step_20 ∷ step_19 ∷ step_18 ∷ step_17 ∷ step_16 ∷ step_13 ∷ step_12 ∷ step_10 ∷ step_9 ∷ step_6 ∷ step_5 ∷ step_4 ∷ step_3 ∷ steps),
                                        going_22 m (step_21 ∷ step_20 ∷ step_19 ∷ step_18 ∷ step_17 ∷ step_16 ∷ step_13 ∷ step_12 ∷ step_10 ∷ step_9 ∷ step_6 ∷ step_5 ∷ step_4 ∷ step_3 ∷ steps),
                                        (
                                          world_24 m (step_23 ∷ step_21 ∷ step_20 ∷ step_19 ∷ step_18 ∷ step_17 ∷ step_16 ∷ step_13 ∷ step_12 ∷ step_10 ∷ step_9 ∷ step_6 ∷ step_5 ∷ step_4 ∷ step_3 ∷ steps),
                                          going_23 m (step_21 ∷ step_20 ∷ step_19 ∷ step_18 ∷ step_17 ∷ step_16 ∷ step_13 ∷ step_12 ∷ step_10 ∷ step_9 ∷ step_6 ∷ step_5 ∷ step_4 ∷ step_3 ∷ steps),
                                          (
                                            world_25 m (step_24 ∷ step_23 ∷ step_21 ∷ step_20 ∷ step_19 ∷ step_18 ∷ step_17 ∷ step_16 ∷ step_13 ∷ step_12 ∷ step_10 ∷ step_9 ∷ step_6 ∷ step_5 ∷ step_4 ∷ step_3 ∷ steps),
                                            going_24 m (step_23 ∷ step_21 ∷ step_20 ∷ step_19 ∷ step_18 ∷ step_17 ∷ step_16 ∷ step_13 ∷ step_12 ∷ step_10 ∷ step_9 ∷ step_6 ∷ step_5 ∷ step_4 ∷ step_3 ∷ steps),
                                            refl,
                                          ),
                                        ),
                                      ),
                                    ),
                                  ),
                                ),
                              ),
                            ),
                          ),
                        ),
                      ),
                    ),
                  ),
                ),
              ),
            ),
          ),
        ),
      ),
    ),
  ),
)

abbrev pub getting_steps : List Step
getting_steps = step_43 ∷ step_42 ∷ step_41 ∷ step_40 ∷ step_39 ∷ step_38 ∷ step_33 ∷ step_32 ∷ step_31 ∷ step_30 ∷ step_29 ∷ step_28 ∷ step_26 ∷ step_25 ∷ []

pub getting_path : (m : Files) (steps : List Step) → Path (world_25 m steps) getting (world_44 m (getting_steps ++ steps))
getting_path m steps = (
  world_26 m (step_25 ∷ steps),
  going_25 m steps,
  (
    world_27 m (step_26 ∷ step_25 ∷ steps),
    going_26 m (step_25 ∷ steps),
    (
      world_28 m (step_26 ∷ step_25 ∷ steps),
      going_27 m (step_26 ∷ step_25 ∷ steps),
      (
        world_29 m (step_28 ∷ step_26 ∷ step_25 ∷ steps),
        going_28 m (step_26 ∷ step_25 ∷ steps),
        (
          world_30 m (step_29 ∷ step_28 ∷ step_26 ∷ step_25 ∷ steps),
          going_29 m (step_28 ∷ step_26 ∷ step_25 ∷ steps),
          (
            world_31 m (step_30 ∷ step_29 ∷ step_28 ∷ step_26 ∷ step_25 ∷ steps),
            going_30 m (step_29 ∷ step_28 ∷ step_26 ∷ step_25 ∷ steps),
            (
              world_32 m (step_31 ∷ step_30 ∷ step_29 ∷ step_28 ∷ step_26 ∷ step_25 ∷ steps),
              going_31 m (step_30 ∷ step_29 ∷ step_28 ∷ step_26 ∷ step_25 ∷ steps),
              (
                world_33 m (step_32 ∷ step_31 ∷ step_30 ∷ step_29 ∷ step_28 ∷ step_26 ∷ step_25 ∷ steps),
                going_32 m (step_31 ∷ step_30 ∷ step_29 ∷ step_28 ∷ step_26 ∷ step_25 ∷ steps),
                (
                  world_34 m (step_33 ∷ step_32 ∷ step_31 ∷ step_30 ∷ step_29 ∷ step_28 ∷ step_26 ∷ step_25 ∷ steps),
                  going_33 m (step_32 ∷ step_31 ∷ step_30 ∷ step_29 ∷ step_28 ∷ step_26 ∷ step_25 ∷ steps),
                  (
                    world_35 m (step_33 ∷ step_32 ∷ step_31 ∷ step_30 ∷ step_29 ∷ step_28 ∷ step_26 ∷ step_25 ∷ steps),
                    going_34 m (step_33 ∷ step_32 ∷ step_31 ∷ step_30 ∷ step_29 ∷ step_28 ∷ step_26 ∷ step_25 ∷ steps),
                    (
                      world_36 m (step_33 ∷ step_32 ∷ step_31 ∷ step_30 ∷ step_29 ∷ step_28 ∷ step_26 ∷ step_25 ∷ steps),
                      going_35 m (step_33 ∷ step_32 ∷ step_31 ∷ step_30 ∷ step_29 ∷ step_28 ∷ step_26 ∷ step_25 ∷ steps),
                      (
                        world_37 m (step_33 ∷ step_32 ∷ step_31 ∷ step_30 ∷ step_29 ∷ step_28 ∷ step_26 ∷ step_25 ∷ steps),
                        going_36 m (step_33 ∷ step_32 ∷ step_31 ∷ step_30 ∷ step_29 ∷ step_28 ∷ step_26 ∷ step_25 ∷ steps),
                        (
                          world_38 m (step_33 ∷ step_32 ∷ step_31 ∷ step_30 ∷ step_29 ∷ step_28 ∷ step_26 ∷ step_25 ∷ steps),
                          going_37 m (step_33 ∷ step_32 ∷ step_31 ∷ step_30 ∷ step_29 ∷ step_28 ∷ step_26 ∷ step_25 ∷ steps),
                          (
                            world_39 m (step_38 ∷ step_33 ∷ step_32 ∷ step_31 ∷ step_30 ∷ step_29 ∷ step_28 ∷ step_26 ∷ step_25 ∷ steps),
                            going_38 m (step_33 ∷ step_32 ∷ step_31 ∷ step_30 ∷ step_29 ∷ step_28 ∷ step_26 ∷ step_25 ∷ steps),
                            (
                              world_40 m (step_39 ∷ step_38 ∷ step_33 ∷ step_32 ∷ step_31 ∷ step_30 ∷ step_29 ∷ step_28 ∷ step_26 ∷ step_25 ∷ steps),
                              going_39 m (step_38 ∷ step_33 ∷ step_32 ∷ step_31 ∷ step_30 ∷ step_29 ∷ step_28 ∷ step_26 ∷ step_25 ∷ steps),
                              (
                                world_41 m (step_40 ∷ step_39 ∷ step_38 ∷ step_33 ∷ step_32 ∷ step_31 ∷ step_30 ∷ step_29 ∷ step_28 ∷ step_26 ∷ step_25 ∷ steps),
                                going_40 m (step_39 ∷ step_38 ∷ step_33 ∷ step_32 ∷ step_31 ∷ step_30 ∷ step_29 ∷ step_28 ∷ step_26 ∷ step_25 ∷ steps),
                                (
                                  world_42 m (step_41 ∷ step_40 ∷ step_39 ∷ step_38 ∷ step_33 ∷ step_32 ∷ step_31 ∷ step_30 ∷ step_29 ∷ step_28 ∷ step_26 ∷ step_25 ∷ steps),
                                  going_41 m (step_40 ∷ step_39 ∷ step_38 ∷ step_33 ∷ step_32 ∷ step_31 ∷ step_30 ∷ step_29 ∷ step_28 ∷ step_26 ∷ step_25 ∷ steps),
                                  (
                                    world_43 m (step_42 ∷ step_41 ∷ step_40 ∷ step_39 ∷ step_38 ∷ step_33 ∷ step_32 ∷ step_31 ∷ step_30 ∷ step_29 ∷ step_28 ∷ step_26 ∷ step_25 ∷ steps),
                                    going_42 m (step_41 ∷ step_40 ∷ step_39 ∷ step_38 ∷ step_33 ∷ step_32 ∷ step_31 ∷ step_30 ∷ step_29 ∷ step_28 ∷ step_26 ∷ step_25 ∷ steps),
                                    (
                                      world_44 m (step_43 ∷ step_42 ∷ step_41 ∷ step_40 ∷ step_39 ∷ step_38 ∷ step_33 ∷ step_32 ∷ step_31 ∷ step_30 ∷ step_29 ∷ step_28 ∷ step_26 ∷ step_25 ∷ steps),
                                      going_43 m (step_42 ∷ step_41 ∷ step_40 ∷ step_39 ∷ step_38 ∷ step_33 ∷ step_32 ∷ step_31 ∷ step_30 ∷ step_29 ∷ step_28 ∷ step_26 ∷ step_25 ∷ steps),
                                      refl,
                                    ),
                                  ),
                                ),
                              ),
                            ),
                          ),
                        ),
                      ),
                    ),
                  ),
                ),
              ),
            ),
          ),
        ),
      ),
    ),
  ),
)

-- ---- the lines as one session

path_on : (xs ys : List Line) (w u t : World Files) → Path w xs u → Path u ys t → Path w (xs ++ ys) t
path_on [] ys w u t is path = subst (λ (z : World Files). Path z ys t) is path
path_on (line ∷ xs) ys w u t (v, going, rest) path = (v, going, path_on xs ys v u t rest path)

abbrev pub session_steps : List Step
session_steps = getting_steps ++ (putting_steps ++ opening_steps)

pub session_path : (m : Files) → Path (world_0 m []) lines (world_44 m session_steps)
session_path m =
    let first : List Step = opening_steps in
    let second : List Step = putting_steps ++ first in
    path_on opening (putting ++ getting) (world_0 m []) (world_3 m first) (world_44 m (getting_steps ++ second))
    (opening_path m [])
    (path_on putting getting (world_3 m first) (world_25 m second) (world_44 m (getting_steps ++ second)) (putting_path m first)
    (getting_path m second))
