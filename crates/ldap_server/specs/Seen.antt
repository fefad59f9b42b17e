-- What a session and a connection are, over what their port is.
use Rattle.sync_provider.specs.Ports.{PortState}
use Rattle.ldap_server.specs.Points.{Point}
use Rattle.ldap_server.specs.Session.{Connected}
use Rattle.ldap_server.specs.declared.connection.Connection.{Connection}
use Rattle.ldap_server.specs.declared.session.Session.{Session}

-- where a session is
abbrev pub point_in : {P : Type 0} → (P → PortState) → Session P → Point
point_in state session = record {
  port = state session.port;
  session = record { bound = session.bound; searches = session.searches.items };
  sent = session.sent.items;
}

-- a connection sends nothing between two events
abbrev pub connected_by : {P : Type 0} → (P → PortState) → Connection P → Connected
connected_by state connection = record {
  port = state connection.session.port;
  access = connection.access;
  session = record {
    bound = connection.session.bound;
    searches = connection.session.searches.items;
  };
  kept = connection.kept.items;
  ended = connection.ended;
}

-- what the port of a connection is a port of
abbrev pub home_in : {P H : Type 0} → (P → H) → Connection P → H
home_in home connection = home connection.session.port
