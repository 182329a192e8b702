-- A connection's fields as what contracts see.
use Rattle.chaos_conn.specs.View.{ConnView}
use Rattle.chaos_conn.specs.declared.conn.Conn.TheInside.{Inside}

abbrev pub conn_view : Inside → ConnView
conn_view c = record {
  state = c.state;
  me = c.me;
  peer = c.peer;
  peer_index = c.peer_index;
  asked = c.asked;
  request = c.request;
  config = c.config;
  last = c.last;
  heard = c.heard;
  resent = c.resent;
  probed = c.probed;
  untold = c.untold;
  send = c.send;
  recv = c.recv;
}
