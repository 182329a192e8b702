-- The states of a run, in which the engine logs in and gets a file: both ends of the connection, each packet, and the worlds.
use Rattle.std.proofs.Common.{ℕ, true, false, List, [], ◌∷◌, ◌++◌, codes, replicate, Some, None, refl}
use Rattle.chaos_packet.specs.Item.{ItemView}
use Rattle.chaos_packet.specs.Packet.{PacketView}
use Rattle.chaos_conn.specs.Config.{usual_config}
use Rattle.chaos_conn.specs.View.{ConnView, new_conn}
use Rattle.chaos_conn.specs.declared.state.State.TheVariants as st
use Rattle.chaos_file.specs.Session.{SessionView, reader, writer}
use Rattle.chaos_file.specs.declared.limits.TheConstants.{NL}
use Rattle.chaos_window.specs.Receive.{ReceiveView}
use Rattle.chaos_window.specs.Send.{SendView, send_view}
use Rattle.chaos_window.specs.Slots.{Slots}
use Rattle.file_client.specs.Talk.{Step, Writes, Reads, Turns, command_item}
use Rattle.file_server.specs.Sessions.{Serving, first_serving, new_serving}
use Rattle.chaos_file.specs.Store.{Files}
use Rattle.std.specs.FinMap as map
use Rattle.file_end_to_end.specs.FileGot.{bytes, path}
use Rattle.file_end_to_end.specs.World.{World}
use Rattle.file_end_to_end.proofs.Moving.{IsRead, asks_of, world_at}

-- ---- commands and replies

abbrev pub login_text : List ℕ
login_text = codes "0  LOGIN ANN"

abbrev pub write_open_text : List ℕ
write_open_text = codes "1 F OPEN WRITE" ++ NL ∷ codes "A"

abbrev pub write_text : List ℕ
write_text = codes "2 F WRITE" ++ NL ∷ codes "HI"

abbrev pub write_close_text : List ℕ
write_close_text = codes "3 F CLOSE"

abbrev pub write_opened_text : List ℕ
write_opened_text = codes "1 F OPEN 0"

abbrev pub wrote_text : List ℕ
wrote_text = codes "2 F WRITE 2"

abbrev pub write_closed_text : List ℕ
write_closed_text = codes "3 F CLOSE 2"

abbrev pub open_text : List ℕ
open_text = codes "4 F OPEN READ" ++ NL ∷ codes "A"

abbrev pub read_text : List ℕ
read_text = codes "5 F READ"

abbrev pub more_text : List ℕ
more_text = codes "6 F READ"

abbrev pub close_text : List ℕ
close_text = codes "7 F CLOSE"

abbrev pub opened_text : List ℕ
opened_text = codes "4 F OPEN 2"

abbrev pub bytes_text : List ℕ
bytes_text = codes "5 F READ" ++ NL ∷ codes "HI"

abbrev pub end_text : List ℕ
end_text = codes "6 F EOF"

abbrev pub closed_text : List ℕ
closed_text = codes "7 F CLOSE 2"

-- ---- the server's sessions

abbrev pub user_session : SessionView
user_session = record { name = Some (codes "ANN"); handles = [] }

-- a file is open for writing, with these bytes so far
abbrev pub write_session : List ℕ → SessionView
write_session bytes = record {
  name = Some (codes "ANN");
  handles = (record (writer (codes "F") (codes "A")) { bytes = bytes }) ∷ [];
}

-- a file is open for reading, and was read to this place
abbrev pub read_session : ℕ → SessionView
read_session position = record {
  name = Some (codes "ANN");
  handles = (record (reader (codes "F") (codes "A") (codes "HI")) { position = position }) ∷ [];
}

-- the files with the one that is put
abbrev pub stored : Files → Files
stored m = map.insert m path bytes

abbrev pub served_0 : Serving
served_0 = first_serving 1 3

abbrev pub served_1 : Serving
served_1 = record (first_serving 1 3) { session = user_session }

abbrev pub served_2 : Serving
served_2 = record (first_serving 1 3) { session = write_session [] }

abbrev pub served_3 : Serving
served_3 = record (first_serving 1 3) { session = write_session (codes "HI") }

abbrev pub served_4 : Serving
served_4 = record (first_serving 1 3) { session = user_session }

abbrev pub served_5 : Serving
served_5 = record (first_serving 1 3) { session = read_session 0 }

abbrev pub served_6 : Serving
served_6 = record (first_serving 1 3) { session = read_session 2 }

abbrev pub served_7 : Serving
served_7 = record (first_serving 1 3) { session = user_session }

-- ---- both ends of the connection

-- a send window: the numbers last sent, receipted and acknowledged, and what is kept
abbrev pub sends : ℕ → ℕ → ℕ → List ItemView → SendView
sends sent receipted acknowledged kept = send_view 13 sent receipted acknowledged 13 kept

-- a receive window: the number last read, what is held, and how many free places there are behind
abbrev pub holds : ℕ → Slots → ℕ → ReceiveView
holds read held free = record { cap = 13; window = 13; read = read; held = held ++ replicate free None }

-- the engine's end while it asks, and when it is open: its moments, what it has read since it told, and both windows
abbrev pub engine_asking : (last heard resent probed untold : ℕ) → SendView → ReceiveView → ConnView
engine_asking last heard resent probed untold send recv = record {
  state = st.RfcSent;
  me = record { address = 257; index = 1 };
  peer = 258;
  peer_index = None;
  asked = true;
  request = 100;
  config = usual_config;
  last = last;
  heard = heard;
  resent = resent;
  probed = probed;
  untold = untold;
  send = send;
  recv = recv;
}

abbrev pub engine_open : (last heard resent probed untold : ℕ) → SendView → ReceiveView → ConnView
engine_open last heard resent probed untold send recv =
    record (engine_asking last heard resent probed untold send recv) { state = st.Open; peer_index = Some 1 }

-- the server's end
abbrev pub server_open : (last heard resent probed untold : ℕ) → SendView → ReceiveView → ConnView
server_open last heard resent probed untold send recv = record {
  state = st.Open;
  me = record { address = 258; index = 1 };
  peer = 257;
  peer_index = Some 1;
  asked = false;
  request = 100;
  config = usual_config;
  last = last;
  heard = heard;
  resent = resent;
  probed = probed;
  untold = untold;
  send = send;
  recv = recv;
}

abbrev pub engine_0 : ConnView
engine_0 = engine_asking 1 1 1 0 0 (sends 100 99 99 ((record { op = 1; body = (codes "FILE") }) ∷ [])) (holds 0 ([]) 13)

abbrev pub engine_1 : ConnView
engine_1 = engine_asking 2 1 1 0 0 (sends 100 99 99 ((record { op = 1; body = (codes "FILE") }) ∷ [])) (holds 0 ([]) 13)

abbrev pub engine_2 : ConnView
engine_2 = engine_open 4 4 1 4 0 (sends 100 100 100 ([])) (holds 300 ([]) 13)

abbrev pub engine_3 : ConnView
engine_3 = engine_open 5 4 5 4 0 (sends 101 100 100 (command_item login_text ∷ [])) (holds 300 ([]) 13)

abbrev pub engine_4 : ConnView
engine_4 = engine_open 5 4 5 4 0 (sends 102 100 100 (command_item login_text ∷ command_item write_open_text ∷ [])) (holds 300 ([]) 13)

abbrev pub engine_5 : ConnView
engine_5 = engine_open 5 4 5 4 0 (sends 103 100 100 (command_item login_text ∷ command_item write_open_text ∷ command_item write_text ∷ [])) (holds 300 ([]) 13)

abbrev pub engine_6 : ConnView
engine_6 = engine_open 6 4 5 4 0 (sends 103 100 100 (command_item login_text ∷ command_item write_open_text ∷ command_item write_text ∷ [])) (holds 300 ([]) 13)

abbrev pub engine_7 : ConnView
engine_7 = engine_open 9 9 5 4 0 (sends 103 101 101 (command_item write_open_text ∷ command_item write_text ∷ [])) (holds 300 (Some (command_item login_text) ∷ []) 12)

abbrev pub engine_8 : ConnView
engine_8 = engine_open 9 9 5 4 1 (sends 103 101 101 (command_item write_open_text ∷ command_item write_text ∷ [])) (holds 301 ([]) 13)

abbrev pub engine_9 : ConnView
engine_9 = engine_open 11 9 5 4 1 (sends 103 101 101 (command_item write_open_text ∷ command_item write_text ∷ [])) (holds 301 ([]) 13)

abbrev pub engine_10 : ConnView
engine_10 = engine_open 511 9 511 4 0 (sends 103 101 101 (command_item write_open_text ∷ command_item write_text ∷ [])) (holds 301 ([]) 13)

abbrev pub engine_11 : ConnView
engine_11 = engine_open 514 514 511 4 0 (sends 103 103 103 ([])) (holds 301 (None ∷ Some (command_item wrote_text) ∷ []) 11)

abbrev pub engine_12 : ConnView
engine_12 = engine_open 515 515 511 4 0 (sends 103 103 103 ([])) (holds 301 (Some (command_item write_opened_text) ∷ Some (command_item wrote_text) ∷ []) 11)

abbrev pub engine_13 : ConnView
engine_13 = engine_open 515 515 511 4 1 (sends 103 103 103 ([])) (holds 302 (Some (command_item wrote_text) ∷ []) 12)

abbrev pub engine_14 : ConnView
engine_14 = engine_open 515 515 511 4 2 (sends 103 103 103 ([])) (holds 303 ([]) 13)

abbrev pub engine_15 : ConnView
engine_15 = engine_open 516 515 516 4 0 (sends 104 103 103 (command_item write_close_text ∷ [])) (holds 303 ([]) 13)

abbrev pub engine_16 : ConnView
engine_16 = engine_open 517 515 516 4 0 (sends 104 103 103 (command_item write_close_text ∷ [])) (holds 303 ([]) 13)

abbrev pub engine_17 : ConnView
engine_17 = engine_open 519 519 516 4 0 (sends 104 104 104 ([])) (holds 303 (Some (command_item write_closed_text) ∷ []) 12)

abbrev pub engine_18 : ConnView
engine_18 = engine_open 519 519 516 4 1 (sends 104 104 104 ([])) (holds 304 ([]) 13)

abbrev pub engine_19 : ConnView
engine_19 = engine_open 520 519 520 4 0 (sends 105 104 104 (command_item open_text ∷ [])) (holds 304 ([]) 13)

abbrev pub engine_20 : ConnView
engine_20 = engine_open 521 519 520 4 0 (sends 105 104 104 (command_item open_text ∷ [])) (holds 304 ([]) 13)

abbrev pub engine_21 : ConnView
engine_21 = engine_open 523 523 520 4 0 (sends 105 105 105 ([])) (holds 304 (Some (command_item opened_text) ∷ []) 12)

abbrev pub engine_22 : ConnView
engine_22 = engine_open 523 523 520 4 1 (sends 105 105 105 ([])) (holds 305 ([]) 13)

abbrev pub engine_23 : ConnView
engine_23 = engine_open 524 523 524 4 0 (sends 106 105 105 (command_item read_text ∷ [])) (holds 305 ([]) 13)

abbrev pub engine_24 : ConnView
engine_24 = engine_open 524 523 524 4 0 (sends 107 105 105 (command_item read_text ∷ command_item more_text ∷ [])) (holds 305 ([]) 13)

abbrev pub engine_25 : ConnView
engine_25 = engine_open 524 523 524 4 0 (sends 108 105 105 (command_item read_text ∷ command_item more_text ∷ command_item close_text ∷ [])) (holds 305 ([]) 13)

abbrev pub engine_26 : ConnView
engine_26 = engine_open 525 523 524 4 0 (sends 108 105 105 (command_item read_text ∷ command_item more_text ∷ command_item close_text ∷ [])) (holds 305 ([]) 13)

abbrev pub engine_27 : ConnView
engine_27 = engine_open 530 530 524 4 0 (sends 108 107 107 (command_item close_text ∷ [])) (holds 305 (None ∷ Some (command_item end_text) ∷ []) 11)

abbrev pub engine_28 : ConnView
engine_28 = engine_open 531 531 524 4 0 (sends 108 107 107 (command_item close_text ∷ [])) (holds 305 (Some (command_item bytes_text) ∷ Some (command_item end_text) ∷ []) 11)

abbrev pub engine_29 : ConnView
engine_29 = engine_open 531 531 524 4 1 (sends 108 107 107 (command_item close_text ∷ [])) (holds 306 (Some (command_item end_text) ∷ []) 12)

abbrev pub engine_30 : ConnView
engine_30 = engine_open 531 531 524 4 2 (sends 108 107 107 (command_item close_text ∷ [])) (holds 307 ([]) 13)

abbrev pub engine_31 : ConnView
engine_31 = engine_open 532 532 524 4 2 (sends 108 108 108 ([])) (holds 307 (Some (command_item closed_text) ∷ []) 12)

abbrev pub engine_32 : ConnView
engine_32 = engine_open 532 532 524 4 3 (sends 108 108 108 ([])) (holds 308 ([]) 13)

abbrev pub server_0 : ConnView
server_0 = new_conn usual_config

abbrev pub server_1 : ConnView
server_1 = server_open 3 3 3 3 0 (sends 300 299 299 ((record { op = 2; body = 100 ∷ 0 ∷ 13 ∷ 0 ∷ [] }) ∷ [])) (holds 100 ([]) 13)

abbrev pub server_2 : ConnView
server_2 = server_open 7 7 3 3 0 (sends 300 300 300 ([])) (holds 100 (Some (command_item login_text) ∷ []) 12)

abbrev pub server_3 : ConnView
server_3 = server_open 7 7 7 3 0 (sends 301 300 300 (command_item login_text ∷ [])) (holds 101 ([]) 13)

abbrev pub server_4 : ConnView
server_4 = server_open 8 8 7 3 0 (sends 301 300 300 (command_item login_text ∷ [])) (holds 101 ([]) 13)

abbrev pub server_5 : ConnView
server_5 = server_open 10 10 7 3 0 (sends 301 300 300 (command_item login_text ∷ [])) (holds 101 (None ∷ Some (command_item write_text) ∷ []) 11)

abbrev pub server_6 : ConnView
server_6 = server_open 512 512 7 3 0 (sends 301 301 301 ([])) (holds 101 (Some (command_item write_open_text) ∷ Some (command_item write_text) ∷ []) 11)

abbrev pub server_7 : ConnView
server_7 = server_open 512 512 512 3 0 (sends 302 301 301 (command_item write_opened_text ∷ [])) (holds 102 (Some (command_item write_text) ∷ []) 12)

abbrev pub server_8 : ConnView
server_8 = server_open 513 512 512 3 0 (sends 303 301 301 (command_item write_opened_text ∷ command_item wrote_text ∷ [])) (holds 103 ([]) 13)

abbrev pub server_9 : ConnView
server_9 = server_open 518 518 512 3 0 (sends 303 303 303 ([])) (holds 103 (Some (command_item write_close_text) ∷ []) 12)

abbrev pub server_10 : ConnView
server_10 = server_open 518 518 518 3 0 (sends 304 303 303 (command_item write_closed_text ∷ [])) (holds 104 ([]) 13)

abbrev pub server_11 : ConnView
server_11 = server_open 522 522 518 3 0 (sends 304 304 304 ([])) (holds 104 (Some (command_item open_text) ∷ []) 12)

abbrev pub server_12 : ConnView
server_12 = server_open 522 522 522 3 0 (sends 305 304 304 (command_item opened_text ∷ [])) (holds 105 ([]) 13)

abbrev pub server_13 : ConnView
server_13 = server_open 526 526 522 3 0 (sends 305 305 305 ([])) (holds 105 (None ∷ Some (command_item more_text) ∷ []) 11)

abbrev pub server_14 : ConnView
server_14 = server_open 527 527 522 3 0 (sends 305 305 305 ([])) (holds 105 (Some (command_item read_text) ∷ Some (command_item more_text) ∷ []) 11)

abbrev pub server_15 : ConnView
server_15 = server_open 527 527 527 3 0 (sends 306 305 305 (command_item bytes_text ∷ [])) (holds 106 (Some (command_item more_text) ∷ []) 12)

abbrev pub server_16 : ConnView
server_16 = server_open 528 527 527 3 0 (sends 307 305 305 (command_item bytes_text ∷ command_item end_text ∷ [])) (holds 107 ([]) 13)

abbrev pub server_17 : ConnView
server_17 = server_open 529 529 527 3 0 (sends 307 305 305 (command_item bytes_text ∷ command_item end_text ∷ [])) (holds 107 (Some (command_item close_text) ∷ []) 12)

abbrev pub server_18 : ConnView
server_18 = server_open 529 529 527 3 0 (sends 308 305 305 (command_item bytes_text ∷ command_item end_text ∷ command_item closed_text ∷ [])) (holds 108 ([]) 13)

-- ---- packets, and what is read of their datagrams

-- a packet of the engine, and one of the server: its opcode, number, acknowledgement and bytes
abbrev pub from_engine : (op num ack : ℕ) → List ℕ → PacketView
from_engine op num ack body =
    record { op = op; fwd = 0; dst = 258; dst_index = 1; src = 257; src_index = 1; num = num; ack = ack; body = body }

abbrev pub from_server : (op num ack : ℕ) → List ℕ → PacketView
from_server op num ack body =
    record { op = op; fwd = 0; dst = 257; dst_index = 1; src = 258; src_index = 1; num = num; ack = ack; body = body }

abbrev pub sent_0 : PacketView
sent_0 = record (from_engine 1 100 0 (codes "FILE")) { dst_index = 0 }

pub sent_0_read : IsRead sent_0
sent_0_read = refl

abbrev pub reply_0 : PacketView
reply_0 = from_server 2 300 100 (100 ∷ 0 ∷ 13 ∷ 0 ∷ [])

pub reply_0_read : IsRead reply_0
reply_0_read = refl

abbrev pub sent_1 : PacketView
sent_1 = from_engine 7 0 300 (44 ∷ 1 ∷ 13 ∷ 0 ∷ [])

pub sent_1_read : IsRead sent_1
sent_1_read = refl

abbrev pub sent_2 : PacketView
sent_2 = from_engine 128 101 300 login_text

pub sent_2_read : IsRead sent_2
sent_2_read = refl

abbrev pub sent_3 : PacketView
sent_3 = from_engine 128 102 300 write_open_text

pub sent_3_read : IsRead sent_3
sent_3_read = refl

abbrev pub sent_4 : PacketView
sent_4 = from_engine 128 103 300 write_text

pub sent_4_read : IsRead sent_4
sent_4_read = refl

abbrev pub reply_1 : PacketView
reply_1 = from_server 128 301 101 login_text

pub reply_1_read : IsRead reply_1
reply_1_read = refl

abbrev pub reply_2 : PacketView
reply_2 = from_server 7 0 101 (101 ∷ 0 ∷ 13 ∷ 0 ∷ [])

pub reply_2_read : IsRead reply_2
reply_2_read = refl

abbrev pub sent_5 : PacketView
sent_5 = from_engine 128 102 301 write_open_text

pub sent_5_read : IsRead sent_5
sent_5_read = refl

abbrev pub sent_6 : PacketView
sent_6 = from_engine 128 103 301 write_text

pub sent_6_read : IsRead sent_6
sent_6_read = refl

abbrev pub reply_3 : PacketView
reply_3 = from_server 128 302 102 write_opened_text

pub reply_3_read : IsRead reply_3
reply_3_read = refl

abbrev pub reply_4 : PacketView
reply_4 = from_server 128 303 103 wrote_text

pub reply_4_read : IsRead reply_4
reply_4_read = refl

abbrev pub sent_7 : PacketView
sent_7 = from_engine 128 104 303 write_close_text

pub sent_7_read : IsRead sent_7
sent_7_read = refl

abbrev pub reply_5 : PacketView
reply_5 = from_server 128 304 104 write_closed_text

pub reply_5_read : IsRead reply_5
reply_5_read = refl

abbrev pub sent_8 : PacketView
sent_8 = from_engine 128 105 304 open_text

pub sent_8_read : IsRead sent_8
sent_8_read = refl

abbrev pub reply_6 : PacketView
reply_6 = from_server 128 305 105 opened_text

pub reply_6_read : IsRead reply_6
reply_6_read = refl

abbrev pub sent_9 : PacketView
sent_9 = from_engine 128 106 305 read_text

pub sent_9_read : IsRead sent_9
sent_9_read = refl

abbrev pub sent_10 : PacketView
sent_10 = from_engine 128 107 305 more_text

pub sent_10_read : IsRead sent_10
sent_10_read = refl

abbrev pub sent_11 : PacketView
sent_11 = from_engine 128 108 305 close_text

pub sent_11_read : IsRead sent_11
sent_11_read = refl

abbrev pub reply_7 : PacketView
reply_7 = from_server 128 306 106 bytes_text

pub reply_7_read : IsRead reply_7
reply_7_read = refl

abbrev pub reply_8 : PacketView
reply_8 = from_server 128 307 107 end_text

pub reply_8_read : IsRead reply_8
reply_8_read = refl

abbrev pub reply_9 : PacketView
reply_9 = from_server 128 308 108 closed_text

pub reply_9_read : IsRead reply_9
reply_9_read = refl

-- ---- the engine's steps, and the worlds

abbrev pub step_0 : Step
step_0 = Turns 2 (asks_of (sent_0 ∷ []) ([]))

abbrev pub step_2 : Step
step_2 = Turns 4 (asks_of ([]) ((sent_1 ∷ []) ∷ []))

abbrev pub step_3 : Step
step_3 = Writes (command_item login_text) 5 true

abbrev pub step_4 : Step
step_4 = Writes (command_item write_open_text) 5 true

abbrev pub step_5 : Step
step_5 = Writes (command_item write_text) 5 true

abbrev pub step_6 : Step
step_6 = Turns 6 (asks_of (sent_2 ∷ sent_3 ∷ sent_4 ∷ []) ([]))

abbrev pub step_9 : Step
step_9 = Turns 9 (asks_of ([]) ([] ∷ []))

abbrev pub step_10 : Step
step_10 = Reads (Some login_text)

abbrev pub step_12 : Step
step_12 = Turns 11 (asks_of ([]) ([]))

abbrev pub step_13 : Step
step_13 = Turns 511 (asks_of ([]) ((sent_5 ∷ []) ∷ (sent_6 ∷ []) ∷ []))

abbrev pub step_16 : Step
step_16 = Turns 514 (asks_of ([]) ([] ∷ []))

abbrev pub step_17 : Step
step_17 = Turns 515 (asks_of ([]) ([] ∷ []))

abbrev pub step_18 : Step
step_18 = Reads (Some write_opened_text)

abbrev pub step_19 : Step
step_19 = Reads (Some wrote_text)

abbrev pub step_20 : Step
step_20 = Writes (command_item write_close_text) 516 true

abbrev pub step_21 : Step
step_21 = Turns 517 (asks_of (sent_7 ∷ []) ([]))

abbrev pub step_23 : Step
step_23 = Turns 519 (asks_of ([]) ([] ∷ []))

abbrev pub step_24 : Step
step_24 = Reads (Some write_closed_text)

abbrev pub step_25 : Step
step_25 = Writes (command_item open_text) 520 true

abbrev pub step_26 : Step
step_26 = Turns 521 (asks_of (sent_8 ∷ []) ([]))

abbrev pub step_28 : Step
step_28 = Turns 523 (asks_of ([]) ([] ∷ []))

abbrev pub step_29 : Step
step_29 = Reads (Some opened_text)

abbrev pub step_30 : Step
step_30 = Writes (command_item read_text) 524 true

abbrev pub step_31 : Step
step_31 = Writes (command_item more_text) 524 true

abbrev pub step_32 : Step
step_32 = Writes (command_item close_text) 524 true

abbrev pub step_33 : Step
step_33 = Turns 525 (asks_of (sent_9 ∷ sent_10 ∷ sent_11 ∷ []) ([]))

abbrev pub step_38 : Step
step_38 = Turns 530 (asks_of ([]) ([] ∷ []))

abbrev pub step_39 : Step
step_39 = Turns 531 (asks_of ([]) ([] ∷ []))

abbrev pub step_40 : Step
step_40 = Reads (Some bytes_text)

abbrev pub step_41 : Step
step_41 = Reads (Some end_text)

abbrev pub step_42 : Step
step_42 = Turns 532 (asks_of ([]) ([] ∷ []))

abbrev pub step_43 : Step
step_43 = Reads (Some closed_text)

abbrev pub world_0 : Files → List Step → World Files
world_0 m steps = world_at m engine_0 (sent_0 ∷ []) ([]) server_0 new_serving ([]) steps

abbrev pub world_1 : Files → List Step → World Files
world_1 m steps = world_at m engine_1 ([]) (sent_0 ∷ []) server_0 new_serving ([]) steps

abbrev pub world_2 : Files → List Step → World Files
world_2 m steps = world_at m engine_1 ([]) (sent_0 ∷ []) server_1 served_0 (reply_0 ∷ []) steps

abbrev pub world_3 : Files → List Step → World Files
world_3 m steps = world_at m engine_2 ([]) (sent_0 ∷ sent_1 ∷ []) server_1 served_0 (reply_0 ∷ []) steps

abbrev pub world_4 : Files → List Step → World Files
world_4 m steps = world_at m engine_3 (sent_2 ∷ []) (sent_0 ∷ sent_1 ∷ []) server_1 served_0 (reply_0 ∷ []) steps

abbrev pub world_5 : Files → List Step → World Files
world_5 m steps = world_at m engine_4 (sent_2 ∷ sent_3 ∷ []) (sent_0 ∷ sent_1 ∷ []) server_1 served_0 (reply_0 ∷ []) steps

abbrev pub world_6 : Files → List Step → World Files
world_6 m steps = world_at m engine_5 (sent_2 ∷ sent_3 ∷ sent_4 ∷ []) (sent_0 ∷ sent_1 ∷ []) server_1 served_0 (reply_0 ∷ []) steps

abbrev pub world_7 : Files → List Step → World Files
world_7 m steps = world_at m engine_6 ([]) (sent_0 ∷ sent_1 ∷ sent_2 ∷ sent_3 ∷ sent_4 ∷ []) server_1 served_0 (reply_0 ∷ []) steps

abbrev pub world_8 : Files → List Step → World Files
world_8 m steps = world_at m engine_6 ([]) (sent_0 ∷ sent_1 ∷ sent_2 ∷ sent_3 ∷ sent_4 ∷ []) server_3 served_1 (reply_0 ∷ reply_1 ∷ []) steps

abbrev pub world_9 : Files → List Step → World Files
world_9 m steps = world_at m engine_6 ([]) (sent_0 ∷ sent_1 ∷ sent_2 ∷ sent_3 ∷ sent_4 ∷ []) server_4 served_1 (reply_0 ∷ reply_1 ∷ reply_2 ∷ []) steps

abbrev pub world_10 : Files → List Step → World Files
world_10 m steps = world_at m engine_7 ([]) (sent_0 ∷ sent_1 ∷ sent_2 ∷ sent_3 ∷ sent_4 ∷ []) server_4 served_1 (reply_0 ∷ reply_1 ∷ reply_2 ∷ []) steps

abbrev pub world_11 : Files → List Step → World Files
world_11 m steps = world_at m engine_8 ([]) (sent_0 ∷ sent_1 ∷ sent_2 ∷ sent_3 ∷ sent_4 ∷ []) server_4 served_1 (reply_0 ∷ reply_1 ∷ reply_2 ∷ []) steps

abbrev pub world_12 : Files → List Step → World Files
world_12 m steps = world_at m engine_8 ([]) (sent_0 ∷ sent_1 ∷ sent_2 ∷ sent_3 ∷ sent_4 ∷ []) server_5 served_1 (reply_0 ∷ reply_1 ∷ reply_2 ∷ []) steps

abbrev pub world_13 : Files → List Step → World Files
world_13 m steps = world_at m engine_9 ([]) (sent_0 ∷ sent_1 ∷ sent_2 ∷ sent_3 ∷ sent_4 ∷ []) server_5 served_1 (reply_0 ∷ reply_1 ∷ reply_2 ∷ []) steps

abbrev pub world_14 : Files → List Step → World Files
world_14 m steps = world_at m engine_10 ([]) (sent_0 ∷ sent_1 ∷ sent_2 ∷ sent_3 ∷ sent_4 ∷ sent_5 ∷ sent_6 ∷ []) server_5 served_1 (reply_0 ∷ reply_1 ∷ reply_2 ∷ []) steps

abbrev pub world_15 : Files → List Step → World Files
world_15 m steps = world_at m engine_10 ([]) (sent_0 ∷ sent_1 ∷ sent_2 ∷ sent_3 ∷ sent_4 ∷ sent_5 ∷ sent_6 ∷ []) server_7 served_2 (reply_0 ∷ reply_1 ∷ reply_2 ∷ reply_3 ∷ []) steps

abbrev pub world_16 : Files → List Step → World Files
world_16 m steps = world_at m engine_10 ([]) (sent_0 ∷ sent_1 ∷ sent_2 ∷ sent_3 ∷ sent_4 ∷ sent_5 ∷ sent_6 ∷ []) server_8 served_3 (reply_0 ∷ reply_1 ∷ reply_2 ∷ reply_3 ∷ reply_4 ∷ []) steps

abbrev pub world_17 : Files → List Step → World Files
world_17 m steps = world_at m engine_11 ([]) (sent_0 ∷ sent_1 ∷ sent_2 ∷ sent_3 ∷ sent_4 ∷ sent_5 ∷ sent_6 ∷ []) server_8 served_3 (reply_0 ∷ reply_1 ∷ reply_2 ∷ reply_3 ∷ reply_4 ∷ []) steps

abbrev pub world_18 : Files → List Step → World Files
world_18 m steps = world_at m engine_12 ([]) (sent_0 ∷ sent_1 ∷ sent_2 ∷ sent_3 ∷ sent_4 ∷ sent_5 ∷ sent_6 ∷ []) server_8 served_3 (reply_0 ∷ reply_1 ∷ reply_2 ∷ reply_3 ∷ reply_4 ∷ []) steps

abbrev pub world_19 : Files → List Step → World Files
world_19 m steps = world_at m engine_13 ([]) (sent_0 ∷ sent_1 ∷ sent_2 ∷ sent_3 ∷ sent_4 ∷ sent_5 ∷ sent_6 ∷ []) server_8 served_3 (reply_0 ∷ reply_1 ∷ reply_2 ∷ reply_3 ∷ reply_4 ∷ []) steps

abbrev pub world_20 : Files → List Step → World Files
world_20 m steps = world_at m engine_14 ([]) (sent_0 ∷ sent_1 ∷ sent_2 ∷ sent_3 ∷ sent_4 ∷ sent_5 ∷ sent_6 ∷ []) server_8 served_3 (reply_0 ∷ reply_1 ∷ reply_2 ∷ reply_3 ∷ reply_4 ∷ []) steps

abbrev pub world_21 : Files → List Step → World Files
world_21 m steps = world_at m engine_15 (sent_7 ∷ []) (sent_0 ∷ sent_1 ∷ sent_2 ∷ sent_3 ∷ sent_4 ∷ sent_5 ∷ sent_6 ∷ []) server_8 served_3 (reply_0 ∷ reply_1 ∷ reply_2 ∷ reply_3 ∷ reply_4 ∷ []) steps

abbrev pub world_22 : Files → List Step → World Files
world_22 m steps = world_at m engine_16 ([]) (sent_0 ∷ sent_1 ∷ sent_2 ∷ sent_3 ∷ sent_4 ∷ sent_5 ∷ sent_6 ∷ sent_7 ∷ []) server_8 served_3 (reply_0 ∷ reply_1 ∷ reply_2 ∷ reply_3 ∷ reply_4 ∷ []) steps

abbrev pub world_23 : Files → List Step → World Files
world_23 m steps = world_at (stored m) engine_16 ([]) (sent_0 ∷ sent_1 ∷ sent_2 ∷ sent_3 ∷ sent_4 ∷ sent_5 ∷ sent_6 ∷ sent_7 ∷ []) server_10 served_4 (reply_0 ∷ reply_1 ∷ reply_2 ∷ reply_3 ∷ reply_4 ∷ reply_5 ∷ []) steps

abbrev pub world_24 : Files → List Step → World Files
world_24 m steps = world_at (stored m) engine_17 ([]) (sent_0 ∷ sent_1 ∷ sent_2 ∷ sent_3 ∷ sent_4 ∷ sent_5 ∷ sent_6 ∷ sent_7 ∷ []) server_10 served_4 (reply_0 ∷ reply_1 ∷ reply_2 ∷ reply_3 ∷ reply_4 ∷ reply_5 ∷ []) steps

abbrev pub world_25 : Files → List Step → World Files
world_25 m steps = world_at (stored m) engine_18 ([]) (sent_0 ∷ sent_1 ∷ sent_2 ∷ sent_3 ∷ sent_4 ∷ sent_5 ∷ sent_6 ∷ sent_7 ∷ []) server_10 served_4 (reply_0 ∷ reply_1 ∷ reply_2 ∷ reply_3 ∷ reply_4 ∷ reply_5 ∷ []) steps

abbrev pub world_26 : Files → List Step → World Files
world_26 m steps = world_at (stored m) engine_19 (sent_8 ∷ []) (sent_0 ∷ sent_1 ∷ sent_2 ∷ sent_3 ∷ sent_4 ∷ sent_5 ∷ sent_6 ∷ sent_7 ∷ []) server_10 served_4 (reply_0 ∷ reply_1 ∷ reply_2 ∷ reply_3 ∷ reply_4 ∷ reply_5 ∷ []) steps

abbrev pub world_27 : Files → List Step → World Files
world_27 m steps = world_at (stored m) engine_20 ([]) (sent_0 ∷ sent_1 ∷ sent_2 ∷ sent_3 ∷ sent_4 ∷ sent_5 ∷ sent_6 ∷ sent_7 ∷ sent_8 ∷ []) server_10 served_4 (reply_0 ∷ reply_1 ∷ reply_2 ∷ reply_3 ∷ reply_4 ∷ reply_5 ∷ []) steps

abbrev pub world_28 : Files → List Step → World Files
world_28 m steps = world_at (stored m) engine_20 ([]) (sent_0 ∷ sent_1 ∷ sent_2 ∷ sent_3 ∷ sent_4 ∷ sent_5 ∷ sent_6 ∷ sent_7 ∷ sent_8 ∷ []) server_12 served_5 (reply_0 ∷ reply_1 ∷ reply_2 ∷ reply_3 ∷ reply_4 ∷ reply_5 ∷ reply_6 ∷ []) steps

abbrev pub world_29 : Files → List Step → World Files
world_29 m steps = world_at (stored m) engine_21 ([]) (sent_0 ∷ sent_1 ∷ sent_2 ∷ sent_3 ∷ sent_4 ∷ sent_5 ∷ sent_6 ∷ sent_7 ∷ sent_8 ∷ []) server_12 served_5 (reply_0 ∷ reply_1 ∷ reply_2 ∷ reply_3 ∷ reply_4 ∷ reply_5 ∷ reply_6 ∷ []) steps

abbrev pub world_30 : Files → List Step → World Files
world_30 m steps = world_at (stored m) engine_22 ([]) (sent_0 ∷ sent_1 ∷ sent_2 ∷ sent_3 ∷ sent_4 ∷ sent_5 ∷ sent_6 ∷ sent_7 ∷ sent_8 ∷ []) server_12 served_5 (reply_0 ∷ reply_1 ∷ reply_2 ∷ reply_3 ∷ reply_4 ∷ reply_5 ∷ reply_6 ∷ []) steps

abbrev pub world_31 : Files → List Step → World Files
world_31 m steps = world_at (stored m) engine_23 (sent_9 ∷ []) (sent_0 ∷ sent_1 ∷ sent_2 ∷ sent_3 ∷ sent_4 ∷ sent_5 ∷ sent_6 ∷ sent_7 ∷ sent_8 ∷ []) server_12 served_5 (reply_0 ∷ reply_1 ∷ reply_2 ∷ reply_3 ∷ reply_4 ∷ reply_5 ∷ reply_6 ∷ []) steps

abbrev pub world_32 : Files → List Step → World Files
world_32 m steps = world_at (stored m) engine_24 (sent_9 ∷ sent_10 ∷ []) (sent_0 ∷ sent_1 ∷ sent_2 ∷ sent_3 ∷ sent_4 ∷ sent_5 ∷ sent_6 ∷ sent_7 ∷ sent_8 ∷ []) server_12 served_5 (reply_0 ∷ reply_1 ∷ reply_2 ∷ reply_3 ∷ reply_4 ∷ reply_5 ∷ reply_6 ∷ []) steps

abbrev pub world_33 : Files → List Step → World Files
world_33 m steps = world_at (stored m) engine_25 (sent_9 ∷ sent_10 ∷ sent_11 ∷ []) (sent_0 ∷ sent_1 ∷ sent_2 ∷ sent_3 ∷ sent_4 ∷ sent_5 ∷ sent_6 ∷ sent_7 ∷ sent_8 ∷ []) server_12 served_5 (reply_0 ∷ reply_1 ∷ reply_2 ∷ reply_3 ∷ reply_4 ∷ reply_5 ∷ reply_6 ∷ []) steps

abbrev pub world_34 : Files → List Step → World Files
world_34 m steps = world_at (stored m) engine_26 ([]) (sent_0 ∷ sent_1 ∷ sent_2 ∷ sent_3 ∷ sent_4 ∷ sent_5 ∷ sent_6 ∷ sent_7 ∷ sent_8 ∷ sent_9 ∷ sent_10 ∷ sent_11 ∷ []) server_12 served_5 (reply_0 ∷ reply_1 ∷ reply_2 ∷ reply_3 ∷ reply_4 ∷ reply_5 ∷ reply_6 ∷ []) steps

abbrev pub world_35 : Files → List Step → World Files
world_35 m steps = world_at (stored m) engine_26 ([]) (sent_0 ∷ sent_1 ∷ sent_2 ∷ sent_3 ∷ sent_4 ∷ sent_5 ∷ sent_6 ∷ sent_7 ∷ sent_8 ∷ sent_9 ∷ sent_10 ∷ sent_11 ∷ []) server_13 served_5 (reply_0 ∷ reply_1 ∷ reply_2 ∷ reply_3 ∷ reply_4 ∷ reply_5 ∷ reply_6 ∷ []) steps

abbrev pub world_36 : Files → List Step → World Files
world_36 m steps = world_at (stored m) engine_26 ([]) (sent_0 ∷ sent_1 ∷ sent_2 ∷ sent_3 ∷ sent_4 ∷ sent_5 ∷ sent_6 ∷ sent_7 ∷ sent_8 ∷ sent_9 ∷ sent_10 ∷ sent_11 ∷ []) server_15 served_6 (reply_0 ∷ reply_1 ∷ reply_2 ∷ reply_3 ∷ reply_4 ∷ reply_5 ∷ reply_6 ∷ reply_7 ∷ []) steps

abbrev pub world_37 : Files → List Step → World Files
world_37 m steps = world_at (stored m) engine_26 ([]) (sent_0 ∷ sent_1 ∷ sent_2 ∷ sent_3 ∷ sent_4 ∷ sent_5 ∷ sent_6 ∷ sent_7 ∷ sent_8 ∷ sent_9 ∷ sent_10 ∷ sent_11 ∷ []) server_16 served_6 (reply_0 ∷ reply_1 ∷ reply_2 ∷ reply_3 ∷ reply_4 ∷ reply_5 ∷ reply_6 ∷ reply_7 ∷ reply_8 ∷ []) steps

abbrev pub world_38 : Files → List Step → World Files
world_38 m steps = world_at (stored m) engine_26 ([]) (sent_0 ∷ sent_1 ∷ sent_2 ∷ sent_3 ∷ sent_4 ∷ sent_5 ∷ sent_6 ∷ sent_7 ∷ sent_8 ∷ sent_9 ∷ sent_10 ∷ sent_11 ∷ []) server_18 served_7 (reply_0 ∷ reply_1 ∷ reply_2 ∷ reply_3 ∷ reply_4 ∷ reply_5 ∷ reply_6 ∷ reply_7 ∷ reply_8 ∷ reply_9 ∷ []) steps

abbrev pub world_39 : Files → List Step → World Files
world_39 m steps = world_at (stored m) engine_27 ([]) (sent_0 ∷ sent_1 ∷ sent_2 ∷ sent_3 ∷ sent_4 ∷ sent_5 ∷ sent_6 ∷ sent_7 ∷ sent_8 ∷ sent_9 ∷ sent_10 ∷ sent_11 ∷ []) server_18 served_7 (reply_0 ∷ reply_1 ∷ reply_2 ∷ reply_3 ∷ reply_4 ∷ reply_5 ∷ reply_6 ∷ reply_7 ∷ reply_8 ∷ reply_9 ∷ []) steps

abbrev pub world_40 : Files → List Step → World Files
world_40 m steps = world_at (stored m) engine_28 ([]) (sent_0 ∷ sent_1 ∷ sent_2 ∷ sent_3 ∷ sent_4 ∷ sent_5 ∷ sent_6 ∷ sent_7 ∷ sent_8 ∷ sent_9 ∷ sent_10 ∷ sent_11 ∷ []) server_18 served_7 (reply_0 ∷ reply_1 ∷ reply_2 ∷ reply_3 ∷ reply_4 ∷ reply_5 ∷ reply_6 ∷ reply_7 ∷ reply_8 ∷ reply_9 ∷ []) steps

abbrev pub world_41 : Files → List Step → World Files
world_41 m steps = world_at (stored m) engine_29 ([]) (sent_0 ∷ sent_1 ∷ sent_2 ∷ sent_3 ∷ sent_4 ∷ sent_5 ∷ sent_6 ∷ sent_7 ∷ sent_8 ∷ sent_9 ∷ sent_10 ∷ sent_11 ∷ []) server_18 served_7 (reply_0 ∷ reply_1 ∷ reply_2 ∷ reply_3 ∷ reply_4 ∷ reply_5 ∷ reply_6 ∷ reply_7 ∷ reply_8 ∷ reply_9 ∷ []) steps

abbrev pub world_42 : Files → List Step → World Files
world_42 m steps = world_at (stored m) engine_30 ([]) (sent_0 ∷ sent_1 ∷ sent_2 ∷ sent_3 ∷ sent_4 ∷ sent_5 ∷ sent_6 ∷ sent_7 ∷ sent_8 ∷ sent_9 ∷ sent_10 ∷ sent_11 ∷ []) server_18 served_7 (reply_0 ∷ reply_1 ∷ reply_2 ∷ reply_3 ∷ reply_4 ∷ reply_5 ∷ reply_6 ∷ reply_7 ∷ reply_8 ∷ reply_9 ∷ []) steps

abbrev pub world_43 : Files → List Step → World Files
world_43 m steps = world_at (stored m) engine_31 ([]) (sent_0 ∷ sent_1 ∷ sent_2 ∷ sent_3 ∷ sent_4 ∷ sent_5 ∷ sent_6 ∷ sent_7 ∷ sent_8 ∷ sent_9 ∷ sent_10 ∷ sent_11 ∷ []) server_18 served_7 (reply_0 ∷ reply_1 ∷ reply_2 ∷ reply_3 ∷ reply_4 ∷ reply_5 ∷ reply_6 ∷ reply_7 ∷ reply_8 ∷ reply_9 ∷ []) steps

abbrev pub world_44 : Files → List Step → World Files
world_44 m steps = world_at (stored m) engine_32 ([]) (sent_0 ∷ sent_1 ∷ sent_2 ∷ sent_3 ∷ sent_4 ∷ sent_5 ∷ sent_6 ∷ sent_7 ∷ sent_8 ∷ sent_9 ∷ sent_10 ∷ sent_11 ∷ []) server_18 served_7 (reply_0 ∷ reply_1 ∷ reply_2 ∷ reply_3 ∷ reply_4 ∷ reply_5 ∷ reply_6 ∷ reply_7 ∷ reply_8 ∷ reply_9 ∷ []) steps
