-- What a connection's thread is given may go there, and what it hands back may come from there.
use denote.RattleType.{RattleType}
use denote.Ref.{NamedLft, ShrRef}
use denote.Struct.Declared.{Declared, row}
use denote.Struct.Field.{bool-field, row_field, shr_ref_field, u64-field}
use denote.Struct.Tuple.{type_at}
use denote.Param.Send.{IsSend, IsSync, sendable, shr_send, shr_sync}
use denote.Param.SendFields.{as_row_send, as_row_sync, declared_send, declared_sync}
use Rattle.std.proofs.Common.{ℕ, List, [], ◌∷◌}
use Rattle.std.specs.contracts.alloc.Global as Global
use Rattle.turn_cell.specs.contracts.pass.Pass as Pass
use Rattle.sync_provider.specs.contracts.journal_note.JournalNote as JournalNote
use Rattle.entry_tree.proofs.Sent.{spec_sync}
use Rattle.shared_directory.proofs.Sent.{directory_sync, pass_field_send, pass_send}
use Rattle.shared_directory.specs.contracts.directory.SharedDirectory as SharedDirectory
use Rattle.shared_directory.specs.contracts.held.HeldDirectory as HeldDirectory
use Rattle.shared_directory.specs.contracts.held.HeldDirectoryJournalled.TheImpl.{ghosts}
use Rattle.shared_directory.specs.contracts.numbered.NumberedProvider as NumberedProvider
use Rattle.ldap_session.proofs.access.Access.TheSendSync as accesses
use Rattle.ldap_session.proofs.ended.Ended.TheSendSync as ends
use Rattle.ldap_session.specs.contracts.access.Access as Access
use Rattle.ldap_session.specs.contracts.ended.Ended as Ended
use Rattle.ldap_listener.proofs.bell.Bell.TheSendSync as bells
use Rattle.replica_node.proofs.end.NodeEnd.TheSendSync as node_ends
use Rattle.replica_node.specs.contracts.end.NodeEnd as NodeEnd
use Rattle.sync_config.proofs.text.ConfigText.TheSendSync as texts
use Rattle.sync_config.specs.contracts.upstream.Upstream as Upstream
use Rattle.ldap_listener.specs.contracts.beside.Followed as Followed
use Rattle.ldap_listener.specs.contracts.bell.Bell as Bell
use Rattle.ldap_listener.specs.contracts.ended_connection.EndedConnection as EndedConnection
use Rattle.ldap_listener.specs.contracts.server.Server as Server

abbrev one_pass : RattleType
one_pass = Pass.the_row HeldDirectory.the_row JournalNote.the_row NumberedProvider.the_row ghosts

-- a connection that is over
pub ended_send : (L : RattleType) → IsSend L → IsSend (EndedConnection.the_row L)
ended_send L link =
    declared_send (EndedConnection.the_type L) (
      as_row_send (Pass.the_field HeldDirectory.the_row JournalNote.the_row NumberedProvider.the_row ghosts) (pass_field_send ghosts),
      (as_row_send (row_field L) link, (as_row_send Ended.the_field ends.the_field_send, tt)),
    )

-- what the half that follows hands back
pub followed_send : (D : RattleType) → IsSend D → IsSend (Followed.the_row D)
followed_send D dial =
    declared_send (Followed.the_type D) (
      as_row_send (Pass.the_field HeldDirectory.the_row JournalNote.the_row NumberedProvider.the_row ghosts) (pass_field_send ghosts),
      (as_row_send (row_field D) dial, (as_row_send NodeEnd.the_field node_ends.the_field_send, tt)),
    )

-- threads may share what is wanted of an upstream
upstream_sync : IsSync Upstream.the_row
upstream_sync = declared_sync Upstream.the_type (texts.the_sync, (spec_sync, (as_row_sync bool-field (search sendable depth 20), tt)))

allocator_sync : IsSync (Global.the_field).row
allocator_sync = search sendable depth 20

module _ (a : NamedLft) (R G : RattleType) (r : IsSync R) (g : IsSync G) where
  -- a reference to what threads may share
  shared : (S : RattleType) → IsSync S → IsSync (ShrRef a.mir a.lft S)
  shared S = shr_sync a.mir a.lft S

  -- threads may share what they are given to share
  server_sync : IsSync (Server.the_row a R G)
  server_sync =
      declared_sync (Server.the_type a R G) (
        as_row_sync (row_field (ShrRef a.mir a.lft R)) (shared R r),
        (
          as_row_sync Global.the_field allocator_sync,
          (
            as_row_sync (shr_ref_field a SharedDirectory.the_row tt) (shared SharedDirectory.the_row directory_sync),
            (
              as_row_sync (shr_ref_field a Access.the_row tt) (shared Access.the_row accesses.the_sync),
              (
                as_row_sync (row_field (ShrRef a.mir a.lft G)) (shared G g),
                (as_row_sync (shr_ref_field a Bell.the_row tt) (shared Bell.the_row bells.the_sync), tt),
              ),
            ),
          ),
        ),
      )

  module _ (K L : RattleType) (clock : IsSend K) (link : IsSend L) (name : List ℕ) (b : NamedLft) where
    server_send : IsSend (shr_ref_field b (Server.the_row a R G) tt).row
    server_send = shr_send b.mir b.lft (Server.the_row a R G) server_sync

    number_send : IsSend (u64-field).row
    number_send = search sendable depth 20

    -- what the closure has that serves a link: what all threads share, a clock, two numbers, a pass
    -- and the link
    abbrev given : Declared
    given =
        type_at name ((shr_ref_field b (Server.the_row a R G) tt).row ∷ K ∷ (u64-field).row ∷ (u64-field).row ∷ one_pass ∷ L ∷ [])

    -- what the thread of a connection is given may go there
    pub given_send : IsSend (row given)
    given_send =
        declared_send given (
          server_send,
          (
            as_row_send (row_field K) clock,
            (number_send, (number_send, (pass_send ghosts, (as_row_send (row_field L) link, tt)))),
          ),
        )

  module _ (K D : RattleType) (clock : IsSend K) (dial : IsSend D) (name : List ℕ) (b c : NamedLft) where
    -- what the closure has that follows an upstream: what all threads share, a clock, a pass, a
    -- dialler, the upstream and a number
    abbrev followed_given : Declared
    followed_given =
        type_at name ((shr_ref_field b (Server.the_row a R G) tt).row ∷ K ∷ one_pass ∷ D ∷ (shr_ref_field c Upstream.the_row tt).row ∷ (u64-field).row ∷ [])

    count_send : IsSend (u64-field).row
    count_send = search sendable depth 20

    -- so may what the thread that follows an upstream is given
    pub followed_given_send : IsSend (row followed_given)
    followed_given_send =
        declared_send followed_given (
          shr_send b.mir b.lft (Server.the_row a R G) server_sync,
          (
            as_row_send (row_field K) clock,
            (
              pass_send ghosts,
              (as_row_send (row_field D) dial, (shr_send c.mir c.lft Upstream.the_row upstream_sync, (count_send, tt))),
            ),
          ),
        )
